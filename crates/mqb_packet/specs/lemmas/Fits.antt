-- A message that a packet can carry has headers that may be written.
use Rattle.std.proofs.Common.{◌<◌, ◌^◌, length}
use Rattle.mqb_base.specs.declared.message.Message.{Message}
use Rattle.mqb_base.specs.Messages.{IsWellFormed}
use Rattle.mqb_heads.specs.Properties.{FitsProps}
use Rattle.mqb_heads.specs.User.{FitsUser}

pub fits_user : (m : Message) → IsWellFormed m → FitsUser m
fits_user m valid = record {
  destination = valid.destination;
  admin = valid.admin;
  response = valid.response;
  journal = valid.journal;
}

pub fits_props : (m : Message) → IsWellFormed m → length m.extension < 2 ^ 32
    → length m.body < 2 ^ 32 → FitsProps m
fits_props m valid extension body = record {
  ack = valid.ack;
  class = valid.class;
  label = valid.label;
  extension = extension;
  body = body;
}
