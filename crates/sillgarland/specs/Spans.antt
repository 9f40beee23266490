-- The struct that the export of spans returns: the numbers of each answer. 02, K7.
use Rattle.refusals.specs.Numbers.{accepted}
use Rattle.varint.specs.Answers.{truth}
use Rattle.grammar.specs.Reading.{Answer, gives, stops}
use Rattle.nodespan.specs.declared.Found.{Found}
use Rattle.sillgarland.specs.declared.spans.SillSpan.{SillSpan}

abbrev pub span_struct : Answer Found → SillSpan
span_struct (gives found) =
    record {
      refusal = accepted;
      place = 0;
      start = found.start;
      end = found.end;
      closed = truth found.closed;
      slots_before = found.slots_before;
    }
span_struct (stops number place) = record { refusal = number; place = place; start = 0; end = 0; closed = 0; slots_before = 0 }
