-- The event of a checked event, with nothing borrowed.
use Rattle.events.specs.declared.checked.Checked.{Checked}
use Rattle.events.specs.Events.{PlainEvent, plain_event}

abbrev pub event_of : Checked → PlainEvent
event_of c = plain_event c.event.now
