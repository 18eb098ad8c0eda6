use Rattle.std.proofs.Common.{◌∙◌, rules}
use Rattle.event_numbers.proofs.Choices.{last}
use Rattle.event_numbers.proofs.events.key_by.Goals as goal

pub returns-in_default : goal.returns-in_default
returns-in_default c =
    c.plain_key.ensures ∙ last c.args.key.kind 0 1 2 3 39 46 _ _ _ _ _ _ _ (search rules) (search rules) (search rules) (search rules) (search rules) (search rules)
