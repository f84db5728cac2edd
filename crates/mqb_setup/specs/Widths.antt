-- What holds of each value that a program has: each field is within its width.
use Rattle.std.specs.Prelude.{◌≡◌, ◌<◌, ◌^◌, length}
use Rattle.mqb_base.specs.declared.ids.Guid.{Guid}
use Rattle.mqb_base.specs.declared.heads.SessionHead.{SessionHead}
use Rattle.mqb_setup.specs.declared.internal.Establish.{Establish}
use Rattle.mqb_setup.specs.declared.internal.Parameters.{Parameters}
use Rattle.mqb_setup.specs.declared.internal.Internal.{Internal}
use Rattle.mqb_setup.specs.declared.internal.Internal.TheVariants as part

abbrev pub IsGuid : Guid → Type 0
IsGuid guid = length guid.0 ≡ 16

pub record IsSessionHead (h : SessionHead) : Type 0 where
  pub ack : h.ack < 2 ^ 16
  pub stored : h.stored < 2 ^ 16
  pub stored_flags : h.stored_flags < 2 ^ 32
  pub user : h.user < 2 ^ 16
  pub recoverable : h.recoverable < 2 ^ 16
  pub window : h.window < 2 ^ 16

pub record IsEstablish (e : Establish) : Type 0 where
  pub client : IsGuid e.client
  pub server : IsGuid e.server
  pub stamp : e.stamp < 2 ^ 32

pub record IsParameters (p : Parameters) : Type 0 where
  pub storage_time : p.storage_time < 2 ^ 32
  pub ack_time : p.ack_time < 2 ^ 32
  pub window : p.window < 2 ^ 16

abbrev pub IsInternal : Internal → Type 0
IsInternal (part.Ack head) = IsSessionHead head
IsInternal (part.Establish e) = IsEstablish e
IsInternal (part.Parameters p) = IsParameters p
