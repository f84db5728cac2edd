use Rattle.std.proofs.Common.{◌≤◌, ◌-◌, length, sym, subst}
use Rattle.mqb_base.specs.Rooms.{Room}
use Rattle.mqb_base.specs.declared.roomed.TheConstants.{MAX_MEMBERS}
use Rattle.mqb_orders.specs.declared.rows.InRow.{InRow}
use Rattle.mqb_tables.specs.Tables.{LeadsToSource}
use Rattle.mqb_contents.proofs.Sources.{key_is_there, sources_fewer}
use Rattle.mqb_contents.proofs.in_rows.InRows.pop.Goals as goal

pub invariant_of-self : goal.invariant_of-self
invariant_of-self c =
    let i = c.self.inside in
    subst (λ (r : Room InRow). (r.room ≤ MAX_MEMBERS) × LeadsToSource r.items i.sources) (sym c.pop.ensures.rest)
    (c.self.invariant.0, sources_fewer i.rows.items i.sources c.self.invariant.1)

pub returns-clause-key : goal.returns-clause-key
returns-clause-key c =
    let i = c.self.inside in
    key_is_there i.rows.items (length i.rows.items - 1) c.pop.result i.sources c.pop.ensures.popped c.self.invariant.1
