use Rattle.std.proofs.Common.{Some, sym, ap, ◌∙◌, is_some}
use Rattle.std.specs.Option.{option_copied_mut}
use Rattle.std.proofs.lemmas.Option.{none-some}
use Rattle.mqb_orders.specs.declared.keys.OutKey.{OutKey}
use Rattle.mqb_orders.specs.contracts.keys.OutKeyPartialEq.TheImpl as eq
use Rattle.mqb_tables.specs.Keys.{same_out_key}
use Rattle.mqb_tables.proofs.Alike.{get_alike, out_keys_alike, updates_alike}
use Rattle.mqb_tables.proofs.Keyed.{number_of_key}
use Rattle.mqb_tables.proofs.in_use.lead.Goals as goal

pub returns-in-Some-clause-updates : goal.returns-in-Some-clause-updates
returns-in-Some-clause-updates c =
    let key : OutKey = record { peer = c.args.peer; destination = c.args.destination.now } in
    let there = number_of_key same_out_key c.args.in_use.now key c.requires in
    let some = ap is_some (get_alike eq.ghosts.eq same_out_key out_keys_alike c.args.in_use.now key ∙ there.1) in
    updates_alike eq.ghosts.eq same_out_key out_keys_alike c.args.in_use.now (c.get_mut.follows.lender c.args.number) key (Some c.args.number)
    ((c.get_mut.follows.holds c.args.number).3 some).0

pub returns-in_default-clause-updates : goal.returns-in_default-clause-updates
returns-in_default-clause-updates c =
    let key : OutKey = record { peer = c.args.peer; destination = c.args.destination.now } in
    let there = number_of_key same_out_key c.args.in_use.now key c.requires in
    absurd (none-some there.0 (ap option_copied_mut (sym c.in_default.is) ∙ (c.get_mut.ensures.value ∙ (get_alike eq.ghosts.eq same_out_key out_keys_alike c.args.in_use.now key ∙ there.1))))
