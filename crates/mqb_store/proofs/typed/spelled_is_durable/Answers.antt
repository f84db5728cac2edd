use Rattle.std.proofs.lemmas.List.Elements.{All-from_recursion}
use Rattle.std.specs.Prelude.{◌<◌, ℕ}
use Rattle.mqb_store.proofs.Beginning.{spelled_as}
use Rattle.mqb_store.proofs.typed.spelled_is_durable.Goals as goal

pub returns : goal.returns
returns c s is = c.read_states_are_durable.ensures c.args.bytes.now s (All-from_recursion (λ (b : ℕ). b < 256) c.args.bytes.now c.bytes_are_bytes.ensures)
    (spelled_as c.args.bytes.now s is)
