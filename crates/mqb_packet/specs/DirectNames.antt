-- Which bytes are the wire form of a direct name.
use Rattle.std.specs.Prelude.{◌≡◌, ℕ, ◌≤◌, ◌<◌, List, length}
use Rattle.std.specs.List.{AllByRecursion}
use Rattle.mqb_base.specs.declared.queue_names.Host.{Host}
use Rattle.mqb_heads.specs.mqb_names.declared.wire.TheConstants.{MAX_DIRECT_UNITS}
use Rattle.mqb_heads.specs.mqb_names.Grammar.{◌then◌, Exactly, Word, HostText}
use Rattle.mqb_heads.specs.mqb_names.Printed.{path}
use Rattle.mqb_heads.specs.mqb_names.Wire.{direct_wire}

-- The count of a text's UTF-16 units, and the units, each an ASCII character: a host behind its
-- protocol, the path, whose letters have either case, and a queue.
pub record IsDirectWire (host : Host) (queue bytes : List ℕ) : Type 0 where
  pub text : List ℕ
  pub ascii : AllByRecursion (λ b. b < 0x80) text
  pub few : length text ≤ MAX_DIRECT_UNITS
  pub spelled : (HostText host then Word path then Exactly queue) text
  pub units : bytes ≡ direct_wire text
