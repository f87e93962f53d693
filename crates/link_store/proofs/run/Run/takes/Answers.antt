use Rattle.link_store.proofs.run.Run.takes.Goals as goal

pub returns-in-None : goal.returns-in-None
returns-in-None c = (λ no. absurd (cc), λ takes. absurd (c.in-None.ensures.none takes.place takes.is))
