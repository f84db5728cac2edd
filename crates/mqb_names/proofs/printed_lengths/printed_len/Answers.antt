use Rattle.std.proofs.Common.{◌∷◌, ◌++◌, arith, codes, length-append}
use Rattle.mqb_names.specs.Printed.{backslash, printed_guid, printed_journal, printed_kind, printed_number}
use Rattle.mqb_names.specs.lemmas.Again.{length_guid}
use Rattle.mqb_names.proofs.printed_lengths.printed_len.Goals as goal

pub returns-in-Public-clause-length : goal.returns-in-Public-clause-length
returns-in-Public-clause-length c =
    let guid = printed_guid c.in-Public.guid in
    let front = codes "PUBLIC=" ++ guid in
    rw c.in-Public.is (omega (
      arith,
      length-append front (printed_journal c.in-Public.journal),
      length-append (codes "PUBLIC=") guid,
      length_guid c.in-Public.guid,
      c.journal_len.ensures.length,
    ))

pub returns-in-Private-clause-length : goal.returns-in-Private-clause-length
returns-in-Private-clause-length c =
    let guid = printed_guid c.in-Private.qm in
    let number = backslash ∷ printed_number c.in-Private.number in
    let front = codes "PRIVATE=" ++ guid in
    rw c.in-Private.is (omega (
      arith,
      length-append (front ++ number) (printed_journal c.in-Private.journal),
      length-append front number,
      length-append (codes "PRIVATE=") guid,
      length_guid c.in-Private.qm,
      c.journal_len-in-Private.ensures.length,
    ))

pub returns-in-Machine-clause-length : goal.returns-in-Machine-clause-length
returns-in-Machine-clause-length c =
    let guid = printed_guid c.in-Machine.qm in
    let front = codes "MACHINE=" ++ guid in
    rw c.in-Machine.is (omega (
      arith,
      length-append front (printed_kind c.in-Machine.kind),
      length-append (codes "MACHINE=") guid,
      length_guid c.in-Machine.qm,
      c.kind_len.ensures.length,
    ))
