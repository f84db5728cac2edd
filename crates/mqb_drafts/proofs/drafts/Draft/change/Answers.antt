use Rattle.std.proofs.Common.{◌∷◌, List, ap, sym, ◌∙◌, subst, refl, arith}
use Rattle.mqb_contents.specs.mqb_model.state.State.{State}
use Rattle.mqb_contents.specs.Changes.{Can, inverse, rooms_redone}
use Rattle.mqb_contents.specs.Rooms.{IsGrown}
use Rattle.mqb_contents.specs.declared.change.Change.{Change}
use Rattle.mqb_contents.proofs.Ready.{IsChanged, held_more, ready_as, ready_grown, same_grown, start_grown, start_stays, still_ready}
use Rattle.mqb_drafts.specs.Drafts.{Drafted}
use Rattle.mqb_drafts.proofs.drafts.Draft.change.Goals as goal
use Rattle.mqb_drafts.proofs.drafts.Draft.change.Goals.{After-make}

pub invariant_of-self-in-Err : goal.invariant_of-self-in-Err
invariant_of-self-in-Err c =
    ready_as (ap (λ (s : State). record { lists = s; rooms = c.make_room.new.contents.value.rooms }) c.make_room.ensures.lists) c.make_room.ensures.log
    (ready_grown c.self.inside.contents.value.lists c.self.inside.log.items c.make_room.ensures.grown c.self.invariant)

pub returns-in-Err-clause-grown : goal.returns-in-Err-clause-grown
returns-in-Err-clause-grown c =
    subst (λ (d : Drafted). IsGrown d.rooms (rooms_redone c.make_room.new.contents.value.rooms c.make_room.new.log.items)) c.self.view_is
    (same_grown c.self.inside.contents.value.rooms c.make_room.new.contents.value.rooms c.make_room.ensures.grown c.make_room.ensures.log)

is_changed : (c : After-make) → IsChanged c.self.inside.contents.value c.make_room.new.contents.value c.make.new.contents.value c.args.change
    (inverse c.make_room.new.contents.value c.args.change) c.self.inside.log.items c.make.new.log.items
is_changed c = record {
  grows = c.make_room.ensures.grown;
  same = c.make_room.ensures.lists;
  can = subst (λ (d : Drafted). Can d.effect.state c.args.change) (sym c.self.view_is) c.requires;
  room = c.in-Ok.ensures.room;
  made = c.make.ensures.made;
  back = refl;
  logged = c.make.ensures.log ∙ ap (λ (l : List Change). inverse c.make_room.new.contents.value c.args.change ∷ l) c.make_room.ensures.log;
}

pub invariant_of-self : goal.invariant_of-self
invariant_of-self c = still_ready (is_changed c) c.self.invariant c.make.ensures.can_back c.make.ensures.room_back

pub returns-in-Ok-clause-start : goal.returns-in-Ok-clause-start
returns-in-Ok-clause-start c = start_stays (is_changed c) ∙ ap (λ (d : Drafted). d.start) c.self.view_is

pub returns-in-Ok-clause-grown : goal.returns-in-Ok-clause-grown
returns-in-Ok-clause-grown c =
    subst (λ (d : Drafted). IsGrown d.rooms (rooms_redone c.make.new.contents.value.rooms c.make.new.log.items)) c.self.view_is (start_grown (is_changed c))

pub returns-in-Ok-clause-held : goal.returns-in-Ok-clause-held
returns-in-Ok-clause-held c =
    let e = held_more (is_changed c) in
    let f = ap (λ (d : Drafted). d.held) c.self.view_is in
    omega (arith, e, f)
