-- A refusal's number, and what a function that can refuse answers: a value, or a refusal and a place.
-- 01, 'Numbers given when nothing is read', and 02's requests, in the order of the table that `Numbers` names.
use Rattle.std.specs.Prelude.{ℕ, Result, Err}
use Rattle.refusals.specs.Numbers.{eof_object, data_too_short, unknown_type, null_object, invalid_ref, bad_size, bad_type, invalid_bytecode, invalid_utf8, too_deep, no_node, no_entry, no_slot, input_too_long, not_carried, bad_table, no_room, number_range, no_marker, no_such_start, already_ended, repeated_tag, no_such_field, not_joined, trailing_bytes, value_too_long}
use Rattle.refusals.specs.declared.Refusal.{Refusal}
use Rattle.refusals.specs.declared.Refusal.TheVariants as refusal
use Rattle.refusals.specs.declared.Fault.{Fault}

abbrev pub number_of : Refusal → ℕ
number_of refusal.EofObject = eof_object
number_of refusal.DataTooShort = data_too_short
number_of refusal.UnknownType = unknown_type
number_of refusal.NullObject = null_object
number_of refusal.InvalidRef = invalid_ref
number_of refusal.BadSize = bad_size
number_of refusal.BadType = bad_type
number_of refusal.InvalidBytecode = invalid_bytecode
number_of refusal.InvalidUtf8 = invalid_utf8
number_of refusal.TooDeep = too_deep
number_of refusal.NoNode = no_node
number_of refusal.NoEntry = no_entry
number_of refusal.NoSlot = no_slot
number_of refusal.InputTooLong = input_too_long
number_of refusal.NotCarried = not_carried
number_of refusal.BadTable = bad_table
number_of refusal.NoRoom = no_room
number_of refusal.NumberRange = number_range
number_of refusal.NoMarker = no_marker
number_of refusal.NoSuchStart = no_such_start
number_of refusal.AlreadyEnded = already_ended
number_of refusal.RepeatedTag = repeated_tag
number_of refusal.NoSuchField = no_such_field
number_of refusal.NotJoined = not_joined
number_of refusal.TrailingBytes = trailing_bytes
number_of refusal.ValueTooLong = value_too_long

-- the refusal and its place
abbrev pub fault : Refusal → ℕ → Fault
fault why place = record { refusal = why; place = place }

-- the answer that a call is refused, with the place it names
abbrev pub refused : {A : Type 0} → Refusal → ℕ → Result A Fault
refused why place = Err (fault why place)
