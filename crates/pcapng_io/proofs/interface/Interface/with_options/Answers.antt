use Rattle.std.proofs.Common.{◌≡◌, ◌≤◌, ◌+◌, ◌-◌, ℕ, length, drop, sym, ap, ◌∙◌, arith, subst, List}
use Rattle.std.proofs.lemmas.List.{take_rest}
use Rattle.pcap_io.specs.Capture.{number}
use Rattle.pcapng_io.specs.Interfaces.{padded, with_options}
use Rattle.pcapng_io.proofs.Options.{setting_is, options_end, options_stop, options_pass, options_bad, options_next}
use Rattle.pcapng_io.proofs.interface.Interface.with_options.Goals as goal

pub returns-then-rest-end-clause-value : goal.returns-then-rest-end-clause-value
returns-then-rest-end-clause-value c = λ n fuel.
    let inv = c.loop-rest.invariant.same n fuel in
    let size : c.from-length.result ≡ number c.args.order 2 (drop 2 c.loop-rest.rest.now) =
    c.from-length.ensures ∙ c.read_u16.ensures ∙ ap (number c.args.order 2) (take_rest c.loop-rest.rest.now 2) in
    sym (inv.2
    ∙ options_pass c.args.order c.loop-rest.interface c.loop-rest.rest.now c.loop-rest-test.true
    (λ e. c.if-code-eq0.false (c.read_u16-code.ensures ∙ e)) inv.0 inv.1 (omega (arith, ap padded size)))

pub returns-in_err-interface-clause-value : goal.returns-in_err-interface-clause-value
returns-in_err-interface-clause-value c = λ n fuel.
    let inv = c.loop-rest.invariant.same n fuel in
    let size : c.from-length.result ≡ number c.args.order 2 (drop 2 c.loop-rest.rest.now) =
    c.from-length.ensures ∙ c.read_u16.ensures ∙ ap (number c.args.order 2) (take_rest c.loop-rest.rest.now 2) in
    let one = setting_is c.args.order c.loop-rest.rest.now c.read_u16-code.result c.from-length.result
    (4 + c.from-length.result - 4) c.read_u16-code.ensures size (omega arith) in
    let bad = options_bad c.args.order c.loop-rest.interface c.loop-rest.rest.now c.loop-rest-test.true
    (λ e. c.if-code-eq0.false (c.read_u16-code.ensures ∙ e)) (4 + c.padded-end.result) (omega (arith, ap padded size))
    (omega arith) _ one inv.0 inv.1 (sym c.with_option.ensures.value ∙ c.in_err-interface.was) in
    c.from_residual.ensures ∙ sym (inv.2 ∙ bad)

pub loop-rest-preserved : goal.loop-rest-preserved
loop-rest-preserved c = record {
  same = λ n fuel.
      let inv = c.loop-rest.invariant.same n fuel in
      let size : c.from-length.result ≡ number c.args.order 2 (drop 2 c.loop-rest.rest.now) =
      c.from-length.ensures ∙ c.read_u16.ensures ∙ ap (number c.args.order 2) (take_rest c.loop-rest.rest.now 2) in
      let one = setting_is c.args.order c.loop-rest.rest.now c.read_u16-code.result c.from-length.result
      (4 + c.from-length.result - 4) c.read_u16-code.ensures size (omega arith) in
      let next = options_next c.args.order c.loop-rest.interface c.loop-rest.rest.now c.loop-rest-test.true
      (λ e. c.if-code-eq0.false (c.read_u16-code.ensures ∙ e)) (4 + c.padded-end.result) (omega (arith, ap padded size))
      (omega arith) _ one inv.0 inv.1 c.in_ok-interface.interface
      (sym c.with_option.ensures.value ∙ c.in_ok-interface.was) in
      let Left : List ℕ → Type 0 = λ rest.
      (x : ℕ) × (length rest ≤ x) × (with_options n c.args.order c.args.self c.args.bytes.now
      ≡ with_options x c.args.order c.in_ok-interface.interface rest) in
      subst Left (sym (take_rest c.loop-rest.rest.now (4 + c.padded-end.result))) (next.0, next.1, inv.2 ∙ next.2);
  units = c.in_ok-interface.ensures.units;
}

pub returns-after-loop-rest-clause-value : goal.returns-after-loop-rest-clause-value
returns-after-loop-rest-clause-value c = λ n fuel.
    let inv = c.loop-rest.invariant.same n fuel in
    sym (inv.2 ∙ options_end c.args.order c.loop-rest.interface c.loop-rest.rest.now inv.0 (omega arith))

pub returns-then-code-eq0-clause-value : goal.returns-then-code-eq0-clause-value
returns-then-code-eq0-clause-value c = λ n fuel.
    let inv = c.loop-rest.invariant.same n fuel in
    sym (inv.2
    ∙ options_stop c.args.order c.loop-rest.interface c.loop-rest.rest.now inv.0 c.loop-rest-test.true
    (sym c.read_u16-code.ensures ∙ c.if-code-eq0.true))
