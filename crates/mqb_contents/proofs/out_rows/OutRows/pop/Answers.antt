use Rattle.std.proofs.Common.{◌≡◌, ℕ, ◌+◌, ◌-◌, ◌≤◌, List, Option, Some, None, filter, length, map, sym, ap, ◌∙◌, subst, arith}
use Rattle.std.specs.List.{All, last_or}
use Rattle.std.specs.Prelude.{IfSome}
use Rattle.std.proofs.lemmas.List.{length-map}
use Rattle.std.proofs.lemmas.List.Elements.{All-take}
use Rattle.indexmap.specs.IndexMap.{get, index_map_len, keys, spare}
use Rattle.mqb_base.specs.declared.roomed.TheConstants.{MAX_MEMBERS}
use Rattle.mqb_orders.specs.declared.keys.OutKey.{OutKey}
use Rattle.mqb_tables.specs.Keys.{HasKey, same_out_key}
use Rattle.mqb_tables.specs.Tables.{AreNumbered, LeadsToLast}
use Rattle.mqb_contents.proofs.InUse.{in_use_fewer, key_is_there}
use Rattle.mqb_base.specs.Rooms.{Room, WithRooms}
use Rattle.std.specs.Option.{IsSomeAnd}
use Rattle.mqb_tables.specs.Ends.{last_of, without_last}
use Rattle.mqb_contents.specs.Rooms.{OutRooms}
use Rattle.mqb_contents.specs.Rows.{EmptyRow, IsBegun, KeepsCommitted, begun_row}
use Rattle.mqb_contents.specs.Seen.{room_of}
use Rattle.mqb_orders.specs.Rows.{Row, leads_to, row_of}
use Rattle.mqb_orders.specs.declared.rows.OutRow.{OutRow}
use Rattle.mqb_tables.proofs.Members.{seen_last, seen_there, seen_without_last}
use Rattle.mqb_contents.proofs.out_rows.OutRows.pop.Goals as goal

pub returns-clause-row : goal.returns-clause-row
returns-clause-row c =
    let x : OutRow = c.pop-row.result in
    let last : last_of c.args.self.now.lists ≡ Some (row_of x) =
    ap (λ (w : WithRooms (List Row) OutRooms). last_of w.lists) (sym c.self.view_is) ∙ seen_last row_of c.self.inside.rows.items x c.pop-row.ensures.popped in
    let begun : IsBegun (row_of x) = subst (λ (o : Option Row). IsSomeAnd o IsBegun) last c.requires in
    last ∙ (ap Some begun ∙ ap (λ (e : EmptyRow). Some (begun_row e.peer e.destination e.sequence)) (sym c.from_row.ensures))

pub returns-clause-row_room : goal.returns-clause-row_room
returns-clause-row_room c =
    ap (λ (w : WithRooms (List Row) OutRooms). last_of w.rooms.members.each) (sym c.self.view_is)
    ∙ (seen_last room_of c.self.inside.rows.items c.pop-row.result c.pop-row.ensures.popped ∙ ap (λ (e : EmptyRow). Some e.room) (sym c.from_row.ensures))

pub returns-clause-rows : goal.returns-clause-rows
returns-clause-rows c =
    ap (λ (r : Room OutRow). map row_of r.items) c.pop-row.ensures.rest
    ∙ (seen_without_last row_of c.self.inside.rows.items ∙ ap (λ (w : WithRooms (List Row) OutRooms). without_last w.lists) c.self.view_is)

pub returns-clause-rooms : goal.returns-clause-rooms
returns-clause-rooms c =
    ap (λ (r : Room OutRow). record { each = map room_of r.items; more = r.room }) c.pop-row.ensures.rest
    ∙ (ap (λ (l : List ℕ). record { each = l; more = c.self.inside.rows.room }) (seen_without_last room_of c.self.inside.rows.items)
    ∙ ap (λ (w : WithRooms (List Row) OutRooms). record { each = without_last w.rooms.members.each; more = w.rooms.members.more }) c.self.view_is)

pub lead_to_last-requires : goal.lead_to_last-requires
lead_to_last-requires c =
    let items : List OutRow = c.self.inside.rows.items in
    let x : OutRow = c.pop-row.result in
    key_is_there (map row_of items) (length items - 1) (row_of x) c.self.inside.in_use (seen_there row_of items (length items - 1) x x c.pop-row.ensures.popped) c.self.invariant.3

pub from_row-requires : goal.from_row-requires
from_row-requires c =
    let x : OutRow = c.pop-row.result in
    let last : last_of c.args.self.now.lists ≡ Some (row_of x) =
    ap (λ (w : WithRooms (List Row) OutRooms). last_of w.lists) (sym c.self.view_is) ∙ seen_last row_of c.self.inside.rows.items x c.pop-row.ensures.popped in
    subst (λ (o : Option Row). IsSomeAnd o IsBegun) last c.requires

pub returns-clause-keys : goal.returns-clause-keys
returns-clause-keys c = c.lead_to_last.ensures.keys ∙ ap (λ (w : WithRooms (List Row) OutRooms). w.rooms.keys) c.self.view_is

pub returns-clause-key : goal.returns-clause-key
returns-clause-key c =
    let items : List OutRow = c.self.inside.rows.items in
    let x : OutRow = c.pop-row.result in
    let there = key_is_there (map row_of items) (length items - 1) (row_of x) c.self.inside.in_use (seen_there row_of items (length items - 1) x x c.pop-row.ensures.popped) c.self.invariant.3 in
    subst (λ (e : EmptyRow). HasKey same_out_key (keys c.lead_to_last.new.in_use) (record { peer = e.peer; destination = e.destination })) (sym c.from_row.ensures)
    (subst (λ (ks : List OutKey). HasKey same_out_key ks (record { peer = x.peer; destination = x.destination })) (sym c.lead_to_last.ensures.keys) there)

pub invariant_of-self : goal.invariant_of-self
invariant_of-self c =
    let i = c.self.inside in
    let items : List OutRow = i.rows.items in
    let x : OutRow = c.pop-row.result in
    let rest : c.pop-row.new.self ≡ record i.rows { items = without_last items } = c.pop-row.ensures.rest in
    let left : List OutRow = c.pop-row.new.self.items in
    let same : c.as_slice.result.now ≡ left = c.as_slice.ensures.items in
    let again : c.as_slice-2.result.now ≡ without_last items = c.as_slice-2.ensures.items ∙ ap (λ (r : Room OutRow). r.items) rest in
    let fewer : map row_of c.as_slice-2.result.now ≡ without_last (map row_of items) = ap (map row_of) again ∙ seen_without_last row_of items in (
      subst (λ (r : Room OutRow). r.room ≤ MAX_MEMBERS) (sym rest) c.self.invariant.0,
      subst (λ (r : Room OutRow). All (λ y. KeepsCommitted (row_of y)) r.items) (sym rest) (All-take (λ y. KeepsCommitted (row_of y)) (length items - 1) items c.self.invariant.1),
      subst (λ (r : List OutRow). AreNumbered (map row_of r) c.pop-row.new.self.room c.enter_all.new.ordinals) same (record {
        leads = c.enter_all.ensures.leads;
        few = let e : length (map row_of c.as_slice.result.now) ≡ length c.as_slice.result.now = length-map c.as_slice.result.now row_of in
            let f : index_map_len c.enter_all.new.ordinals ≤ length c.as_slice.result.now = c.enter_all.ensures.few in
            omega (arith, e, f);
        own = λ all. c.enter_all.ensures.own (let e : length (map row_of c.as_slice.result.now) ≡ length c.as_slice.result.now = length-map c.as_slice.result.now row_of in omega (arith, e, all));
        room = let e : c.pop-row.new.self.room ≡ i.rows.room = ap (λ (r : Room OutRow). r.room) rest in
            let f : index_map_len i.ordinals + spare i.ordinals ≤ index_map_len c.enter_all.new.ordinals + spare c.enter_all.new.ordinals = c.enter_all.ensures.room in
            let g : i.rows.room ≤ index_map_len i.ordinals + spare i.ordinals = c.self.invariant.2.room in
            omega (arith, e, f, g);
      }),
      subst (λ (r : List OutRow). LeadsToLast (map row_of r) c.lead_to_last.new.in_use) c.as_slice-2.ensures.items
          (subst (λ (rs : List Row). LeadsToLast rs c.lead_to_last.new.in_use) (sym fewer)
          (in_use_fewer (map row_of items) (row_of x) i.in_use c.lead_to_last.new.in_use (seen_last row_of items x c.pop-row.ensures.popped)
          (subst (λ (rs : List Row). IfSome (last_or None (filter (leads_to x.peer x.destination) rs))
          (λ row. get same_out_key c.lead_to_last.new.in_use (record { peer = x.peer; destination = x.destination }) ≡ Some row.sequence.ordinal)) fewer c.lead_to_last.ensures.last)
          c.lead_to_last.ensures.others c.self.invariant.3)),
    )
