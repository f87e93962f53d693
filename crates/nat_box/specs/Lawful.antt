-- The laws of programs, of the box with 1 to 64 tables of each kind.
use Rattle.std.specs.Prelude.{◌≡◌, ℕ, ◌+◌, ◌-◌, ◌*◌, ◌/◌, ◌%◌, ◌<◌, Bool, true, false, List, [], length, refl}
use Rattle.std.specs.Prelude.{if◌then◌else◌}
use Rattle.std.proofs.Common.{arith, subst, ◌∙◌}
use Rattle.std.proofs.lemmas.Grind.{common_steps}
use Rattle.packet_headers.specs.declared.flow.Flow.{Flow}
use Rattle.packet_headers.specs.Fields.{put_word, put_long, long_at}
use Rattle.packet_headers.specs.Rewriting.{rewritten, with_source}
use Rattle.icmp_errors.specs.declared.error.IcmpError.{IcmpError}
use Rattle.icmp_errors.specs.ErrorRewriting.{exchanged_word, exchanged_long, icmp_checksum, quoted_checksum}
use Rattle.icmp_errors.specs.ErrorRewriting.{source_place, dest_place, transport_checksum, has_transport_checksum}
use Rattle.icmp_errors.specs.ErrorRewriting.{transport_sum, header_sum, with_transport_checksum, with_quoted_address}
use Rattle.icmp_errors.specs.ErrorRewriting.{rewritten_error}
use Rattle.icmp_errors.proofs.Exchanges.{length-exchanged}
use Rattle.plain_machine.specs.Program.{IsLawful}
use Rattle.nat_box.specs.declared.place.Class.{Class}
use Rattle.nat_box.specs.declared.place.Class.TheVariants.{Outbound, Hairpin, Inbound, OutboundError}
use Rattle.nat_box.specs.declared.place.Noted.{Noted}
use Rattle.nat_box.specs.declared.seeing.Seen.{Seen}
use Rattle.nat_box.specs.declared.seeing.Seen.TheVariants.{OfFlow, OfError, OfNeither}
use Rattle.nat_box.specs.Places.{place_numbered, noted}
use Rattle.nat_box.specs.Settings.{Settings, AreSettings}
use Rattle.nat_box.specs.Nat.{seen_by, error_out, begun, looked, told, frame_out, bytes_out, nat_meaning, Fits}
use Rattle.nat_box.specs.Nat.{touched_by}
use Rattle.nat_box.specs.LimitLaws.{touch_comes}
use Rattle.nat_box.specs.Noting.{is_noted}
use Rattle.nat_box.specs.Ranks.{touches_it, reads_it, below_all, rank_at, limited_falls, look_falls_at, clock_falls_at}
use Rattle.nat_box.specs.Ranks.{draw_falls_at, emit_falls_at, ends_at, few_to_make}
use Rattle.nat_box.specs.Fitting.{touch_by_fits, value_fits, fresh_fits_at}

-- Frames keep their length

long_word : (frame : List ℕ) (place word : ℕ) → length (put_word frame place word) ≡ length frame
long_word frame place word = grind (arith, common_steps)

long_long : (frame : List ℕ) (place number : ℕ) → length (put_long frame place number) ≡ length frame
long_long frame place number = long_word _ _ _ ∙ long_word _ _ _

long_rewritten : (frame : List ℕ) (flow : Flow) (address_place port_place address port : ℕ)
    → length (rewritten frame flow address_place port_place address port) ≡ length frame
long_rewritten frame flow address_place port_place address port =
    long_word _ _ _ ∙ long_long _ _ _ ∙ long_word _ _ _ ∙ long_word _ _ _

long_exchanged : (frame : List ℕ) (checksum place number : ℕ)
    → length (exchanged_long frame checksum place number) ≡ length frame
long_exchanged frame checksum place number =
    length-exchanged (exchanged_word frame checksum place (number / 65536)) checksum (place + 2) (number % 65536)
    ∙ length-exchanged frame checksum place (number / 65536)

long_transport : (frame : List ℕ) (error : IcmpError) (old_address address port_place port : ℕ)
    → length (with_transport_checksum frame error old_address address port_place port) ≡ length frame
long_transport frame error old_address address port_place port = by (has_transport_checksum error)
  where
    by : (b : Bool)
        → length (if b then
        exchanged_word frame (icmp_checksum error) (transport_checksum error)
        (transport_sum frame error old_address address port_place port)
        else frame) ≡ length frame
    by true = length-exchanged frame (icmp_checksum error) (transport_checksum error)
        (transport_sum frame error old_address address port_place port)
    by false = refl

long_addressed : (frame : List ℕ) (error : IcmpError) (place old_address address : ℕ)
    → length (with_quoted_address frame error place old_address address) ≡ length frame
long_addressed frame error place old_address address =
    long_exchanged
    (exchanged_word frame (icmp_checksum error) (quoted_checksum error) (header_sum frame error old_address address))
    (icmp_checksum error) place address
    ∙ length-exchanged frame (icmp_checksum error) (quoted_checksum error)
    (header_sum frame error old_address address)

long_error : (frame : List ℕ) (error : IcmpError) (outer_place quoted_place port_place address port : ℕ)
    → length (rewritten_error frame error outer_place quoted_place port_place address port) ≡ length frame
long_error frame error outer_place quoted_place port_place address port =
    let old : ℕ = long_at frame quoted_place in
    let outer : List ℕ = exchanged_long frame 24 outer_place address in
    let transport : List ℕ = with_transport_checksum outer error old address port_place port in
    long_addressed (exchanged_word transport (icmp_checksum error) port_place port) error quoted_place old address
    ∙ length-exchanged transport (icmp_checksum error) port_place port
    ∙ long_transport outer error old address port_place port
    ∙ long_exchanged frame 24 outer_place address

long_out : (s : Settings) (bytes : List ℕ) (n : Noted) (seen : Seen)
    → length (bytes_out s bytes n seen) ≡ length bytes
long_out s bytes n (OfNeither answer) = refl
long_out s bytes n (OfError error) = by n.class
  where
    by : (c : Class) → length (error_out s c bytes error n) ≡ length bytes
    by Outbound = refl
    by Hairpin = refl
    by Inbound = long_error bytes error 30 (source_place error) error.transport_at n.target.address n.target.port
    by OutboundError = long_error bytes error 26 (dest_place error) (error.transport_at + 2) s.outside n.port
long_out s bytes n (OfFlow flow) = by n.class
  where
    by : (c : Class) → length (frame_out s c bytes flow n) ≡ length bytes
    by Outbound = long_rewritten bytes flow 26 flow.transport_at s.outside n.port
    by Hairpin =
        long_rewritten (with_source bytes flow s.outside n.port) flow 30 (flow.transport_at + 2) n.target.address
        n.target.port
        ∙ long_rewritten bytes flow 26 flow.transport_at s.outside n.port
    by Inbound = long_rewritten bytes flow 30 (flow.transport_at + 2) n.target.address n.target.port
    by OutboundError = refl

pub nat_lawful : (s : Settings) → AreSettings s → IsLawful (nat_meaning s) (Fits s)
nat_lawful s is = record {
  some_vars = omega arith;
  few_vars = omega (arith, is.few);
  touches_var = λ l v e. subst (λ (u : ℕ). u < 2 + 2 * s.shards) (touches_it s (place_numbered l.at) (noted l) v e)
      (below_all s (place_numbered l.at) (noted l) is.some);
  reads_var = λ l v e. subst (λ (u : ℕ). u < 2 + 2 * s.shards) (reads_it s (place_numbered l.at) (noted l) v e)
      (below_all s (place_numbered l.at) (noted l) is.some);
  begins = λ p. rw (rank_at (begun s (seen_by s p))) (few_to_make s (seen_by s p));
  touch_falls = λ v x l e f. rw (rank_at (touched_by s.limit (place_numbered l.at) x (noted l)).1)
      (limited_falls s (place_numbered l.at) x (noted l) v (touched_by s.limit (place_numbered l.at) x (noted l)) e
      (touch_comes s v s.limit (place_numbered l.at) x (noted l) f));
  look_falls = λ v x l e f.
      rw (rank_at (looked (place_numbered l.at) x (noted l))) (look_falls_at s (place_numbered l.at) x (noted l) v e);
  clock_falls = λ a l e.
      rw (rank_at (told (place_numbered l.at) a (noted l))) (clock_falls_at s (place_numbered l.at) a (noted l) e);
  draw_falls = λ a l e. rw (rank_at (told (place_numbered l.at) a (noted l)))
      (draw_falls_at s (place_numbered l.at) a (noted l) e);
  emit_falls = λ l e. emit_falls_at s (place_numbered l.at) (noted l) e;
  ends = λ l e. ends_at s (place_numbered l.at) (noted l) e;
  fresh_fits = λ v _. fresh_fits_at s is v;
  touch_fits = λ v x l e f. value_fits s v (noted l) (touched_by s.limit (place_numbered l.at) x (noted l)).0
      (touch_by_fits s (place_numbered l.at) x (noted l) v (is_noted l)
      (touches_it s (place_numbered l.at) (noted l) v e) f);
  as_long = λ p l e. long_out s p.bytes (noted l) (seen_by s p);
}
