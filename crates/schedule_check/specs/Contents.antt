-- When two contents are equal.
use Rattle.std.specs.Prelude.{◌==◌, ◌&&◌, Bool}
use Rattle.std.specs.Str.{bytes_eq}
use Rattle.schedule_check.specs.declared.content.Content.{Content}

abbrev pub same_content : Content → Content → Bool
same_content a b =
    (a.seconds == b.seconds)
    && ((a.nanoseconds == b.nanoseconds) && ((a.original == b.original) && bytes_eq a.bytes.now b.bytes.now))
