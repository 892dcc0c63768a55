-- Tickets by their numbers.
use Rattle.std.specs.Prelude.{ℕ, Ok, Err, Result}
use Rattle.engine.specs.declared.refusal.Refusal.{Refusal}
use Rattle.volume.specs.declared.ticket.Ticket.{Ticket}

abbrev pub numbered : Result Ticket Refusal → Result ℕ Refusal
numbered (Ok t) = Ok t.number
numbered (Err e) = Err e
