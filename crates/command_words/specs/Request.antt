-- What the words of the command line ask for.
use Rattle.std.specs.Prelude.{ℕ, Bool, ◌||◌, List, [], ◌∷◌, codes, if◌then◌else◌, Option, None, Some}
use Rattle.std.specs.Str.{bytes_eq}
use Rattle.command_words.specs.declared.topic.Topic.{Topic}
use Rattle.command_words.specs.declared.topic.Topic.TheVariants.{Run, Live, Drill, Trace, Picture, Chain, Hand, Resume, Tap}
use Rattle.command_words.specs.declared.topic.Topic.TheVariants.{Play, Check, Make, Watch}
use Rattle.command_words.specs.declared.request.Request.{Request}
use Rattle.command_words.specs.declared.request.Request.TheVariants.{Help, HelpOf, Version, Command}

-- the command of this name
abbrev pub topic_of : List ℕ → Option Topic
topic_of name =
    if bytes_eq name (codes "run") then Some Run else
    if bytes_eq name (codes "live") then Some Live else
    if bytes_eq name (codes "drill") then Some Drill else
    if bytes_eq name (codes "trace") then Some Trace else
    if bytes_eq name (codes "picture") then Some Picture else
    if bytes_eq name (codes "chain") then Some Chain else
    if bytes_eq name (codes "hand") then Some Hand else
    if bytes_eq name (codes "resume") then Some Resume else
    if bytes_eq name (codes "tap") then Some Tap else
    if bytes_eq name (codes "play") then Some Play else
    if bytes_eq name (codes "check") then Some Check else
    if bytes_eq name (codes "make") then Some Make else
    if bytes_eq name (codes "watch") then Some Watch else
    None

-- the word asks for help after the name of a command
abbrev pub asks_more : List ℕ → Bool
asks_more word = bytes_eq word (codes "--help") || bytes_eq word (codes "-h")

-- the one and only word asks for help
abbrev pub asks_help : List ℕ → Bool
asks_help word = asks_more word || bytes_eq word (codes "help")

abbrev pub asks_version : List ℕ → Bool
asks_version word = bytes_eq word (codes "--version") || bytes_eq word (codes "-V")

-- what a word asks for after the name of a command, or after another word
abbrev pub request_after : Option Topic → List ℕ → Request
request_after (Some topic) word = if asks_more word then HelpOf topic else Command
request_after None word = if bytes_eq word (codes "--help") then Help else Command

-- help or the version where the one and only word asks for it; the help of a command where `--help` or `-h` is the second
-- and last word after its name, and all help where `--help` is that after another word; and else a command
abbrev pub request_of : List (List ℕ) → Request
request_of [] = Command
request_of (word ∷ []) = if asks_help word then Help else if asks_version word then Version else Command
request_of (first ∷ word ∷ []) = request_after (topic_of first) word
request_of (first ∷ second ∷ third ∷ more) = Command
