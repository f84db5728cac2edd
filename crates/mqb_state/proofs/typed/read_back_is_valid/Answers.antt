use Rattle.std.proofs.lemmas.List.Elements.{All-from_recursion}
use Rattle.std.specs.Prelude.{◌<◌, ℕ}
use Rattle.mqb_state.proofs.typed.read_back_is_valid.Goals as goal

pub returns : goal.returns
returns c = λ s e. c.read_states_are_valid.ensures c.args.bytes.now s (All-from_recursion (λ (b : ℕ). b < 256) c.args.bytes.now c.bytes_are_bytes.ensures) e
