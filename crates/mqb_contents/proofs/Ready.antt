-- Changes that can be made, and need no memory.
use Rattle.std.proofs.Common.{◌≡◌, ◌+◌, List, [], ◌∷◌, refl, sym, ap, ◌∙◌, subst, arith}
use Rattle.mqb_base.specs.Rooms.{WithRooms}
use Rattle.mqb_base.specs.declared.message.Lane.TheVariants as lane
use Rattle.mqb_tables.specs.mqb_model.state.State.{State}
use Rattle.mqb_contents.specs.Changes.{AllReady, Can, HasRoom, changed, held, held_back, inverse, lists_after, messages_back, redone, rooms_redone}
use Rattle.mqb_contents.specs.Rooms.{IsGrown, StateRooms}
use Rattle.mqb_contents.specs.declared.change.Change.{Change}
use Rattle.mqb_contents.specs.declared.change.Change.TheVariants as change
use Rattle.mqb_contents.proofs.Grown.{grown_after, grown_redone}
use Rattle.mqb_contents.proofs.Laws.{held_back_of_inverse, lists_back, rooms_back, whole_back}

abbrev Whole : Type 0
Whole = WithRooms State StateRooms

-- the change back comes first
pub ready_back : (w : Whole) (c : Change) (cs : List Change) → Can w.lists c → HasRoom w c → Can (lists_after w.lists c) (inverse w c)
    → HasRoom (changed w c) (inverse w c) → AllReady w cs → AllReady (changed w c) (inverse w c ∷ cs)
ready_back w c cs can had can_back room ready = (can_back, room, subst (λ (u : Whole). AllReady u cs) (sym (whole_back w c can had)) ready)

pub redone_back : (w : Whole) (c : Change) (cs : List Change) → Can w.lists c → redone (lists_after w.lists c) (inverse w c ∷ cs) ≡ redone w.lists cs
redone_back w c cs can = ap (λ (t : State). redone t cs) (lists_back w c can)

has_room_grown : (s : State) {old new : StateRooms} (c : Change) → IsGrown old new → HasRoom (record { lists = s; rooms = old }) c → HasRoom (record { lists = s; rooms = new }) c
has_room_grown s (change.Insert at kind k m) g h = let more = g.places.rooms at kind in omega (arith, more, h)
has_room_grown s (change.Remove at kind k) g h = tt
has_room_grown s (change.InsertPlain peer kind k o) g h = let more = (g.plain kind).rooms peer in omega (arith, more, h)
has_room_grown s (change.RemovePlain peer kind k) g h = tt
has_room_grown s (change.InsertKept row k x) g h = let more = g.outs.rooms row in omega (arith, more, h)
has_room_grown s (change.RemoveKept row k) g h = tt
has_room_grown s (change.Mark row marks) g h = tt
has_room_grown s (change.AddRow r) g h = (omega (arith, g.outs.more, h.0), g.in_use (record { peer = r.peer; destination = r.destination }) h.1)
has_room_grown s change.DropRow g h = omega (arith, g.outs.count, h)
has_room_grown s (change.Decide k sequence last) g h = tt
has_room_grown s (change.AddIn r) g h = (omega (arith, g.ins, h.0), g.sources (record { source = r.source; destination = r.destination }) h.1)
has_room_grown s change.DropIn g h = tt
has_room_grown s (change.AddPeer p) g h = (omega (arith, g.peers, h.0), omega (arith, (g.plain lane.Durable).more, h.1))
has_room_grown s change.DropPeer g h = omega (arith, (g.plain lane.Durable).count, h)
has_room_grown s (change.AddQueue q) g h = omega (arith, g.places.more, h)
has_room_grown s change.DropQueue g h = omega (arith, g.places.count, h)
has_room_grown s (change.Count c) g h = tt

-- What was ready stays ready as rooms grow.
pub ready_grown : (s : State) {old new : StateRooms} (cs : List Change) → IsGrown old new → AllReady (record { lists = s; rooms = old }) cs → AllReady (record { lists = s; rooms = new }) cs
ready_grown s [] g h = tt
ready_grown s (c ∷ cs) g h = (h.0, has_room_grown s c g h.1, ready_grown (lists_after s c) cs (grown_after c g) h.2)

-- ---- the same, of values that are equal

pub ready_as : {w u : Whole} {cs ds : List Change} → u ≡ w → ds ≡ cs → AllReady w cs → AllReady u ds
ready_as {w} {u} {cs} {ds} same stack h = subst (λ (x : Whole). AllReady x ds) (sym same) (subst (λ (l : List Change). AllReady w l) (sym stack) h)

pub room_as : {w u : Whole} {c d : Change} → u ≡ w → d ≡ c → HasRoom u d → HasRoom w c
room_as {w} {u} {c} {d} same change h = subst (λ (x : Whole). HasRoom x c) same (subst (λ (x : Change). HasRoom u x) change h)

pub can_as : {s t : State} {c d : Change} → t ≡ s → d ≡ c → Can t d → Can s c
can_as {s} {t} {c} {d} same change h = subst (λ (x : State). Can x c) same (subst (λ (x : Change). Can t x) change h)

pub redone_as : {s t : State} {cs ds : List Change} → t ≡ s → ds ≡ cs → redone t ds ≡ redone s cs
redone_as {s} {t} {cs} {ds} lists stack = ap (λ (x : State). redone x ds) lists ∙ ap (λ (l : List Change). redone s l) stack

-- ---- a change of a draft, after room was made, and what its log then has

-- w, v and u: before, with room made, and changed; c and d: the change and the change back; cs and ds: the log before and after
pub record IsChanged (w v u : Whole) (c d : Change) (cs ds : List Change) : Type 0 where
  pub grows : IsGrown w.rooms v.rooms
  pub same : v.lists ≡ w.lists
  pub can : Can w.lists c
  pub room : HasRoom v c
  pub made : u ≡ changed v c
  pub back : d ≡ inverse v c
  pub logged : ds ≡ d ∷ cs

module _ {w v u : Whole} {c d : Change} {cs ds : List Change} (h : IsChanged w v u c d cs ds) where
  can_now : Can v.lists c
  can_now = subst (λ (s : State). Can s c) (sym h.same) h.can

  log_is : ds ≡ inverse v c ∷ cs
  log_is = h.logged ∙ ap (λ (x : Change). x ∷ cs) h.back

  lists_made : u.lists ≡ lists_after v.lists c
  lists_made = ap (λ (x : Whole). x.lists) h.made

  pub still_ready : AllReady w cs → Can u.lists d → HasRoom u d → AllReady u ds
  still_ready ready can room =
      let ready_now : AllReady v cs = ready_as (ap (λ (s : State). record { lists = s; rooms = v.rooms }) h.same) refl (ready_grown w.lists cs h.grows ready) in
      ready_as h.made log_is (ready_back v c cs can_now h.room (can_as lists_made h.back can) (room_as h.made h.back room) ready_now)

  pub start_stays : redone u.lists ds ≡ redone w.lists cs
  start_stays = redone_as lists_made log_is ∙ (redone_back v c cs can_now ∙ ap (λ (s : State). redone s cs) h.same)

  pub held_more : messages_back ds ≡ messages_back cs + held c
  held_more =
      let e : messages_back ds ≡ held_back d + messages_back cs = ap messages_back h.logged in
      let f : held_back d ≡ held c = ap held_back h.back ∙ held_back_of_inverse v c can_now in
      omega (arith, e, f)

  -- the rooms that the lists of the start have by now
  pub start_grown : IsGrown (rooms_redone w.rooms cs) (rooms_redone u.rooms ds)
  start_grown =
      let same : rooms_redone u.rooms ds ≡ rooms_redone v.rooms cs =
      ap (λ (x : Whole). rooms_redone x.rooms ds) h.made
      ∙ (ap (λ (l : List Change). rooms_redone (changed v c).rooms l) log_is
      ∙ ap (λ (r : StateRooms). rooms_redone r cs) (rooms_back v c can_now h.room)) in
      subst (λ (r : StateRooms). IsGrown (rooms_redone w.rooms cs) r) (sym same) (grown_redone cs h.grows)

pub same_grown : (old new : StateRooms) {cs ds : List Change} → IsGrown old new → ds ≡ cs → IsGrown (rooms_redone old cs) (rooms_redone new ds)
same_grown old new {cs} {ds} g log = subst (λ (l : List Change). IsGrown (rooms_redone old cs) (rooms_redone new l)) (sym log) (grown_redone cs g)
