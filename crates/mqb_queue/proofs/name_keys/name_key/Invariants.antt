use Rattle.std.proofs.Common.{◌≡◌, ◌++◌, ◌-◌, map, replicate, take}
use Rattle.std.specs.Char.{to_ascii_lowercase}
use Rattle.mqb_base.specs.declared.names.TheConstants.{MAX_NAME}
use Rattle.mqb_queue.proofs.name_keys.name_key.Given as goal

abbrev pub invariant-loop-k : goal.invariant-loop-k
invariant-loop-k l = l.key ≡ map to_ascii_lowercase (take l.k l.name) ++ replicate (MAX_NAME - l.k) 0
