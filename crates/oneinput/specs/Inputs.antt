-- Stores in which a value's nodes all name one input. 02, K11: "Kept nodes keep the input they name; appended nodes take an input number".
use Rattle.std.specs.Prelude.{◌≡◌, ℕ, ◌<◌, true}
use Rattle.grammar.specs.State.{node_at}
use Rattle.keepvisit.specs.Visit.{Stores, member, children, chain_of}

-- Every node that counts as used has its chain and its children among those that do, and its children name its input.
pub record OneInput (t : Stores) : Type 0 where
  pub chained : (n e : ℕ) → n < t.node_limit → member e (chain_of t n) ≡ true → e < t.entry_limit
  pub counted : (n c : ℕ) → n < t.node_limit → member c (children t n) ≡ true → c < t.node_limit
  pub alike : (n c : ℕ) → n < t.node_limit → member c (children t n) ≡ true → (node_at t.nodes c).input ≡ (node_at t.nodes n).input
