-- What a call of the world below does to what the taps mirror.
use Rattle.std.proofs.Common.{◌≡◌, ℕ, zero, suc, ◌==◌, Bool, true, false, List, [], ◌∷◌, ◌++◌, length, take, Option}
use Rattle.std.proofs.Common.{Some, None}
use Rattle.std.proofs.Common.{refl, sym, ap, ◌∙◌, subst, append-nil, inl, inr}
use Rattle.std.proofs.lemmas.Bool.{cases_Bool, eqb-true, eqb-false}
use Rattle.std.proofs.lemmas.Slice.Eq.{bytes_eq-Decides}
use Rattle.std.specs.Str.{bytes_eq}
use Rattle.std.specs.Prelude.{slice_get, map, Result, Ok, Err, IfOk, OnErr}
use Rattle.world_io.specs.declared.world.OpenFault.{OpenFault}
use Rattle.world_io.specs.World.{Start, Shown, Ledger, GivesOpened, GivesCreated, KeepsLedgerReading}
use Rattle.world_io.specs.World.{KeepsLedgerWriting, OpensFile, CreatesFile, CreatesNothing, WritesFile}
use Rattle.release_taps.specs.declared.seat.Seat.{Seat}
use Rattle.release_taps.specs.Mirrored.{sent_to, mirrored_part, after_create, IsFileOf, IsMirroring}
use Rattle.release_taps.specs.Seats.{AllMirror, AreShown, AllFresh, Mirrors, seated}

some-same : {X : Type 0} {x y : X} → Some x ≡ Some y → x ≡ y
some-same same = cc

sent-put : (m : Option ℕ) (file : ℕ) (bytes : List ℕ) (old new : Shown) → WritesFile file bytes old new
    → sent_to m old ++ mirrored_part m file bytes ≡ sent_to m new
sent-put None file bytes old new w = refl
sent-put (Some k) file bytes old new w = elim (cases_Bool (k == file)) [
  | inl same ↦ rw same (ap (λ f. old.sent f ++ bytes) (eqb-true k file same) ∙ sym w.sent
      ∙ ap new.sent (sym (eqb-true k file same)))
  | inr other ↦ rw other (append-nil (old.sent k) ∙ sym (w.other_sent k (eqb-false k file other)))
]

sent-same : (m : Option ℕ) (old new : Shown) → new.sent ≡ old.sent → sent_to m old ≡ sent_to m new
sent-same None old new same = refl
sent-same (Some k) old new same = sym (ap (λ f. f k) same)

file_of-same : (name : List ℕ) (m : Option ℕ) (l l' : Ledger) (s s' : Shown) → IsFileOf name m l s
    → l'.created ≡ l.created → s'.name_of ≡ s.name_of → IsFileOf name m l' s'
file_of-same name m l l' s s' is created names = record {
  own = λ f e. ap (λ g. g f) names ∙ is.own f e;
  none = λ e f c q. is.none e f (sym (ap (λ g. g f) created) ∙ c) (sym (ap (λ g. g f) names) ∙ q);
}

seat-of : {T : Type 0} (taps : List T) (k : ℕ) (seat : Seat T) → slice_get (map seated taps) k ≡ Some seat
    → (tap : T) × slice_get taps k ≡ Some tap × seat ≡ seated tap
seat-of [] k seat there = cc
seat-of (tap ∷ taps) zero seat there = (tap, refl, sym (some-same there))
seat-of (tap ∷ taps) (suc k) seat there = seat-of taps k seat there

nil-of : (xs : List ℕ) → xs ≡ [] → take (length xs) [] ≡ xs
nil-of xs none = rw none refl

module _ {W T : Type 0} (honest : Start → W → Type 0) (shows : Start → W → Shown) (ledger : W → Ledger)
    (tells : T → Type 0) (seen : T → List ℕ) (faults lacks : T → ℕ) (name : List ℕ) where
  abbrev pub Is : Option ℕ → W → List (Seat T) → Type 0
  Is = IsMirroring honest shows ledger tells seen faults lacks name

  shown_all : (bytes more : List ℕ) (old new : List (Seat T)) → AllMirror tells seen faults lacks bytes old
      → AreShown tells seen faults lacks more old new → AllMirror tells seen faults lacks (bytes ++ more) new
  shown_all bytes more old new all shown k seat there =
      let was = shown.each k seat there in was.2.mirrors bytes (all k was.0 was.1)

  module _ (m : Option ℕ) (old new : W) (before : (p : Start) → honest p new → honest p old) (seats : List (Seat T))
      (is : Is m old seats) where
    -- nothing was written or created
    pub mirroring-same : (ledger new).created ≡ (ledger old).created
        → ((p : Start) → honest p new → (shows p new).name_of ≡ (shows p old).name_of)
        → ((p : Start) → honest p new → (shows p new).sent ≡ (shows p old).sent) → Is m new seats
    mirroring-same created names sent = record {
      created = λ f e. ap (λ g. g f) created ∙ is.created f e;
      named = λ p h. file_of-same name m _ _ _ _ (is.named p (before p h)) created (names p h);
      mirrors = λ p h. subst (λ bytes. AllMirror tells seen faults lacks bytes seats)
          (sent-same m (shows p old) (shows p new) (sent p h)) (is.mirrors p (before p h));
    }

    -- a name was opened, or not
    pub mirroring-open : (asked : List ℕ) (result : Result ℕ OpenFault)
        → IfOk result (λ file. GivesOpened asked file (ledger old) (ledger new))
        → OnErr result (KeepsLedgerReading (ledger old) (ledger new))
        → ((p : Start) → honest p new → IfOk result (λ file. OpensFile asked file (shows p old) (shows p new)))
        → ((p : Start) → honest p new → OnErr result (shows p new ≡ shows p old)) → Is m new seats
    mirroring-open asked (Ok file) given not_given opens stays =
        mirroring-same given.created (λ p h. (opens p h).name_of) (λ p h. (opens p h).sent)
    mirroring-open asked (Err fault) given not_given opens stays =
        mirroring-same not_given.created (λ p h. ap (λ (s : Shown). s.name_of) (stays p h))
        (λ p h. ap (λ (s : Shown). s.sent) (stays p h))

    -- nothing was created
    mirroring-none : (asked : List ℕ) → KeepsLedgerWriting (ledger old) (ledger new)
        → ((p : Start) → honest p new → CreatesNothing asked (shows p old) (shows p new)) → Is m new seats
    mirroring-none asked keeps nothing =
        mirroring-same keeps.created (λ p h. (nothing p h).name_of) (λ p h. (nothing p h).sent)

    -- bytes were put to a file, and the taps were shown those of the mirrored one
    pub mirroring-put : (file : ℕ) (bytes : List ℕ) (after : List (Seat T))
        → (ledger new).created ≡ (ledger old).created
        → ((p : Start) → honest p new → WritesFile file bytes (shows p old) (shows p new))
        → AreShown tells seen faults lacks (mirrored_part m file bytes) seats after → Is m new after
    mirroring-put file bytes after created writes shown = record {
      created = λ f e. ap (λ g. g f) created ∙ is.created f e;
      named = λ p h. file_of-same name m _ _ _ _ (is.named p (before p h)) created (writes p h).name_of;
      mirrors = λ p h. subst (λ bytes. AllMirror tells seen faults lacks bytes after)
          (sent-put m file bytes (shows p old) (shows p new) (writes p h))
          (shown_all _ _ seats after (is.mirrors p (before p h)) shown);
    }

  module _ (old new : W) (before : (p : Start) → honest p new → honest p old) (seats : List (Seat T))
      (asked : List ℕ) (file : ℕ) (gives : GivesCreated file (ledger old) (ledger new))
      (creates : (p : Start) → honest p new → CreatesFile asked file (shows p old) (shows p new)) where
    -- a file that was created before is not the new one
    is_other : (k : ℕ) → (ledger old).created k ≡ true → ¬ (k ≡ file)
    is_other k created same =
        let contrary : true ≡ false = sym created ∙ ap (ledger old).created same ∙ gives.fresh.not_created in cc

    was_created : (k : ℕ) → (ledger new).created k ≡ true → ¬ (k ≡ file) → (ledger old).created k ≡ true
    was_created k created differ = sym (gives.others k differ) ∙ created

    -- a file is mirrored already
    mirroring-later : (m : Option ℕ) → ¬ (m ≡ None) → Is m old seats → Is m new seats
    mirroring-later None there is = absurd (there refl)
    mirroring-later (Some k) there is = record {
      created = λ f e. gives.others f (is_other f (is.created f e)) ∙ is.created f e;
      named = λ p h. record {
        own = λ f e. (creates p h).other_name_of f (is_other f (is.created f e)) ∙ (is.named p (before p h)).own f e;
        none = λ e. cc;
      };
      mirrors = λ p h. subst (λ bytes. AllMirror tells seen faults lacks bytes seats)
          (sym ((creates p h).other_sent k (is_other k (is.created k refl)))) (is.mirrors p (before p h));
    }

    -- the new file has the name
    mirroring-first : (m : Option ℕ) → m ≡ None → asked ≡ name → Is m old seats → Is (Some file) new seats
    mirroring-first (Some k) first has is = cc
    mirroring-first None first has is = record {
      created = λ f e. ap (ledger new).created (sym (some-same e)) ∙ gives.created;
      named = λ p h. record {
        own = λ f e. ap (shows p new).name_of (sym (some-same e)) ∙ (creates p h).name_of ∙ has;
        none = λ e. cc;
      };
      mirrors = λ p h. subst (λ bytes. AllMirror tells seen faults lacks bytes seats)
          (sym (creates p h).sent) (is.mirrors p (before p h));
    }

    -- the new file has another name
    mirroring-other : (m : Option ℕ) → m ≡ None → ¬ (asked ≡ name) → Is m old seats → Is m new seats
    mirroring-other (Some k) first differ is = cc
    mirroring-other None first differ is = record {
      created = λ f e. cc;
      named = λ p h. record {
        own = λ f e. cc;
        none = λ e f created has. elim (cases_Bool (f == file)) [
          | inl same ↦ differ (sym (ap (shows p new).name_of (eqb-true f file same) ∙ (creates p h).name_of) ∙ has)
          | inr other ↦ (is.named p (before p h)).none refl f (was_created f created (eqb-false f file other))
              (sym ((creates p h).other_name_of f (eqb-false f file other)) ∙ has)
        ];
      };
      mirrors = λ p h. is.mirrors p (before p h);
    }

  -- a name was created, or not
  pub mirroring-create : (m : Option ℕ) (old new : W) (before : (p : Start) → honest p new → honest p old)
      (seats : List (Seat T)) (asked : List ℕ) (named : Bool) (result : Result ℕ OpenFault) → Is m old seats
      → named ≡ bytes_eq asked name
      → IfOk result (λ file. GivesCreated file (ledger old) (ledger new))
      → OnErr result (KeepsLedgerWriting (ledger old) (ledger new))
      → ((p : Start) → honest p new → IfOk result (λ file. CreatesFile asked file (shows p old) (shows p new)))
      → ((p : Start) → honest p new → OnErr result (CreatesNothing asked (shows p old) (shows p new)))
      → Is (after_create m named result) new seats
  mirroring-create (Some k) old new before seats asked named (Ok file) is says given none creates nothing =
      mirroring-later old new before seats asked file given creates (Some k) (λ e. cc) is
  mirroring-create (Some k) old new before seats asked named (Err e) is says given none creates nothing =
      mirroring-none (Some k) old new before seats is asked none nothing
  mirroring-create None old new before seats asked true (Ok file) is says given none creates nothing =
      mirroring-first old new before seats asked file given creates None refl
      ((bytes_eq-Decides asked name).0 (sym says)) is
  mirroring-create None old new before seats asked true (Err e) is says given none creates nothing =
      mirroring-none None old new before seats is asked none nothing
  mirroring-create None old new before seats asked false (Ok file) is says given none creates nothing =
      mirroring-other old new before seats asked file given creates None refl
      (λ same. let contrary : false ≡ true = says ∙ (bytes_eq-Decides asked name).1 same in cc) is
  mirroring-create None old new before seats asked false (Err e) is says given none creates nothing =
      mirroring-none None old new before seats is asked none nothing

  -- nothing was created yet, and the taps are fresh
  pub mirroring-new : (world : W) (taps : List T) (seats : List (Seat T))
      → ((file : ℕ) → (ledger world).created file ≡ false) → AllFresh tells seen faults lacks taps
      → seats ≡ map seated taps → Is None world seats
  mirroring-new world taps seats created fresh are = record {
    created = λ f e. cc;
    named = λ p h. record {
      own = λ f e. cc;
      none = λ e f was has. let contrary : true ≡ false = sym was ∙ created f in cc;
    };
    mirrors = λ p h k seat there.
        let tap = seat-of taps k seat (sym (ap (λ s. slice_get s k) are) ∙ there) in
        subst (Mirrors tells seen faults lacks []) (sym tap.2) (record {
          there = λ took told. (fresh k tap.0 tap.1).seen_nothing told;
          first = λ told. nil-of (seen tap.0) ((fresh k tap.0 tap.1).seen_nothing told);
          failed = λ e. cc;
          lacked = λ e. cc;
        });
  }
