use Rattle.std.proofs.Common.{sym, subst}
use Rattle.plain_text.specs.declared.kind.Kind.{Kind}
use Rattle.plain_text.specs.declared.kind.Kind.TheVariants as kind
use Rattle.several_events.specs.Progressing.{IsMessage, NoMessage}
use Rattle.several_events.proofs.MessageLists.{message_of_kind, message_out, none_out, of_kind}
use Rattle.several_events.proofs.messages.next_message.Goals as goal

pub returns-in-Some-clause-some : goal.returns-in-Some-clause-some
returns-in-Some-clause-some g c =
    λ s w st. message_of_kind s w c.args.kind c.args.thread c.args.arrived _ (c.in-Some.ensures.some s w st)

pub returns-in_err-thread-in-Log-clause-none : goal.returns-in_err-thread-in-Log-clause-none
returns-in_err-thread-in-Log-clause-none g c = λ is s w st.
    subst (λ (k : Kind). NoMessage s w k c.args.thread c.args.arrived) (sym c.in-Log.is)
    (none_out s w c.args.thread c.args.arrived
    (of_kind s w c.args.kind c.args.thread c.args.arrived c.in-Log.is (c.next_of_kind.ensures.none c.in-None.is s w st))
    (c.next_of_kind-in-Log.ensures.none c.in_err-thread-in-Log.was s w st))

pub returns-in_ok-thread-in-Log-clause-some : goal.returns-in_ok-thread-in-Log-clause-some
returns-in_ok-thread-in-Log-clause-some g c = λ s w st.
    subst (λ (k : Kind).
    IsMessage s w k c.args.thread c.args.arrived (kind.Out, c.in_ok-thread-in-Log.thread, c.in_ok-thread-in-Log.number))
    (sym c.in-Log.is)
    (message_out s w c.args.thread c.args.arrived _
    (of_kind s w c.args.kind c.args.thread c.args.arrived c.in-Log.is (c.next_of_kind.ensures.none c.in-None.is s w st))
    (c.in_ok-thread-in-Log.ensures.some s w st))
