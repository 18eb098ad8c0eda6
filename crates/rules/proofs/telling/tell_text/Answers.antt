use Rattle.events.specs.Passed.{event_of}
use Rattle.rules.proofs.Texts.{text_tells}
use Rattle.rules.proofs.telling.tell_text.Goals as goal

pub returns-clause-told : goal.returns-clause-told
returns-clause-told c = λ base. text_tells base c.args.flags.bits (event_of c.args.key) c.text_rule.result c.text_rule.ensures
