-- What is promised of the input that nodes name, each part by its own page. Assumes nothing.
use mathlib.Core.Path.{◌≡◌, refl, ◌∙◌}
use Prim.Native.Nat.{ℕ, ◌<◌}
use Rattle.grammar.specs.State.{node_at}
use Rattle.keepvisit.specs.Visit.{Stores, Reaches, here, down}
use Rattle.keep.specs.Kept.{lent_stores}
use Rattle.carried.proofs.Promised.{visit_of}
use Rattle.oneinput.specs.Inputs.{OneInput}
use Rattle.oneinput.specs.Promised.{Promised}
use Rattle.oneinput.proofs.Reading.{read_one, read_zero}
use Rattle.oneinput.proofs.Moving.{moved_one}
use Rattle.oneinput.proofs.Appending.{appended_one}

module _ (t : Stores) (o : OneInput t) (root : ℕ) (used : root < t.node_limit) where
  -- what is reached counts as used, and names the root's input
  within : (n : ℕ) → Reaches t root n → n < t.node_limit
  within _ here = used
  within _ (down a c r m) = o.counted a c (within a r) m

  reached : (n : ℕ) → Reaches t root n → (node_at t.nodes n).input ≡ (node_at t.nodes root).input
  reached _ here = refl
  reached _ (down a c r m) = o.alike a c (within a r) m ∙ reached a r

pub inputs_keep_their_promises : Promised
inputs_keep_their_promises =
    record {
      reached = λ t o root n used r. reached t o root used n r;
      read = read_one;
      read_zero = read_zero;
      moved = λ nodes entries used_nodes used_entries root size order h.
          let t = lent_stores nodes entries used_nodes used_entries in
          moved_one t root order (visit_of t used_nodes used_entries root size order h);
      appended = appended_one;
    }
