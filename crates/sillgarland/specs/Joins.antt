-- The structs that the exports of joins return: 01's numbers of each answer. A line goes out as the signed number that it is.
use Rattle.std.specs.Prelude.{ℤ, pos, ℕ, Result, Ok, Err}
use Rattle.std.specs.Int.{w32}
use Rattle.std.proofs.Common.{to_z}
use Rattle.refusals.specs.Numbers.{accepted}
use Rattle.refusals.specs.Faults.{number_of}
use Rattle.refusals.specs.declared.Fault.{Fault}
use Rattle.varint.specs.Answers.{truth}
use Rattle.lineentry.specs.Line.{as_signed}
use Rattle.join.specs.declared.Joined.{Joined}
use Rattle.join.specs.declared.LineTold.{LineTold}
use Rattle.sillgarland.specs.declared.joins.SillJoined.{SillJoined}
use Rattle.sillgarland.specs.declared.joins.SillLine.{SillLine}

-- a line that is kept plus 2^31
abbrev pub line_number : ℕ → ℤ
line_number line = to_z w32 (as_signed line)

-- where a call is refused, the line is 0
abbrev pub joined_struct : Result Joined Fault → SillJoined
joined_struct (Ok a) = record { refusal = accepted; place = 0; written = a.written; count = a.count; line = line_number a.line }
joined_struct (Err f) = record { refusal = number_of f.refusal; place = f.place; written = 0; count = 0; line = pos 0 }

abbrev pub line_struct : Result LineTold Fault → SillLine
line_struct (Ok a) = record { refusal = accepted; place = 0; whole = truth a.whole; line = line_number a.line }
line_struct (Err f) = record { refusal = number_of f.refusal; place = f.place; whole = 0; line = pos 0 }
