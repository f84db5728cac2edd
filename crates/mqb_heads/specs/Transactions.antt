-- The transaction header.
use Rattle.std.specs.Prelude.{ℕ, List, ◌++◌, Result, Ok}
use Rattle.mqb_base.specs.declared.heads.TxHead.{TxHead}
use Rattle.mqb_fields.specs.declared.faults.HeadFault.{HeadFault}
use Rattle.mqb_fields.specs.Reading.{◌>>=◌, Reading}
use Rattle.mqb_fields.specs.Writing.{bytes_of}
use Rattle.mqb_fields.specs.Packets.{field_at, skipped}

unfoldable pub tx_at : Reading → Result (TxHead × Reading) HeadFault
tx_at r = do
  flags ← skipped 4 r
  ordinal ← field_at 4 flags
  stamp ← field_at 4 ordinal.1
  number ← field_at 4 stamp.1
  previous ← field_at 4 number.1
  Ok (
    record {
      sequence = record { ordinal = ordinal.0; stamp = stamp.0 };
      number = number.0;
      previous = previous.0;
    },
    previous.1,
  )

abbrev pub plain_tx : TxHead → List ℕ
plain_tx head = bytes_of 4 0 ++ bytes_of 4 head.sequence.ordinal ++ bytes_of 4 head.sequence.stamp
    ++ bytes_of 4 head.number ++ bytes_of 4 head.previous
