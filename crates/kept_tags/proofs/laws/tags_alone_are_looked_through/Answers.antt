use Rattle.kept_tags.proofs.Seen.{untagged_seen, tagged_seen, unasked_seen, back_again}
use Rattle.kept_tags.proofs.laws.tags_alone_are_looked_through.Goals as goal

pub returns-clause-untagged : goal.returns-clause-untagged
returns-clause-untagged c = untagged_seen

pub returns-clause-tagged : goal.returns-clause-tagged
returns-clause-tagged c = tagged_seen

pub returns-clause-unasked : goal.returns-clause-unasked
returns-clause-unasked c = unasked_seen

pub returns-clause-put_back : goal.returns-clause-put_back
returns-clause-put_back c = back_again
