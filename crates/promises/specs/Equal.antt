-- Equal means equal, over the calls of a reader and a writer. 02, K14: "for two accepted values whose codes keep the name order and whose
-- writing fits, written bytes are equal exactly if the values are the same by 01's meaning. Sets and dicts compare in stored order."
-- That a writing fits is the writer's own acceptance, whatever the nesting and the room were; demand 2 says where it does. A value of `meaning`
-- has its members in stored order, so that equality there is that. Name order is asked for where equal bytes are to be of the same value, and
-- only there.
use Rattle.std.specs.Prelude.{◌≡◌, List, [], ℕ, take}
use Rattle.grammar.specs.Reading.{Answer, gives, stops}
use Rattle.meaning.specs.Value.{Value}
use Rattle.meaning.specs.Order.{InOrder}
use Rattle.promises.specs.Calls.{Reader, Writer}
use Rattle.promises.specs.Demand2.{ReadAs, NodeRead, Hands}

-- the bytes that a call of the writer wrote: as many of its output as it says
abbrev pub counted_bytes : Answer ℕ → List ℕ → List ℕ
counted_bytes (gives count) output = take count output
counted_bytes (stops number place) output = []

abbrev pub bytes_of : (W : Writer) → W.Calls → List ℕ
bytes_of W w = counted_bytes (W.answer w) (W.output w)

-- a node that was read is handed to a call of the writer, which accepts it
pub record WrittenNode (R : Reader) (W : Writer) (r : NodeRead R) (w : W.Calls) : Type 0 where
  pub hands : Hands R r W w
  pub count : ℕ
  pub accepted : W.answer w ≡ gives count

pub record Equal (R : Reader) (W : Writer) : Type 0 where
  pub value : NodeRead R → Value
  pub read : (r : NodeRead R) → ReadAs R r.call r.counts r.node (value r)
  pub same_bytes : (r r' : NodeRead R) (w w' : W.Calls) → WrittenNode R W r w → WrittenNode R W r' w'
      → value r ≡ value r' → bytes_of W w ≡ bytes_of W w'
  pub same_value : (r r' : NodeRead R) (w w' : W.Calls) → WrittenNode R W r w → WrittenNode R W r' w' → InOrder (value r) → InOrder (value r')
      → bytes_of W w ≡ bytes_of W w' → value r ≡ value r'
