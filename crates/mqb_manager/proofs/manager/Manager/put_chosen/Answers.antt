use Rattle.std.proofs.Common.{◌≡◌, ◌<◌, ◌≤◌, All, length, ap, subst, sym, ◌∙◌}
use Rattle.std.specs.Prelude.{◌+◌, ◌++◌, IsSomeAnd, flat_map, slice_get}
use Rattle.std.specs.Vec.{vec_capacity}
use Rattle.mqb_packet.specs.Plain.{plain_spelling}
use Rattle.mqb_packet.specs.Values.{IsPacket}
use Rattle.mqb_choosing.specs.Choices.{IsThere, bytes_in, shown_in}
use Rattle.mqb_model.specs.calls.pump.Pump.{packet_for}
use Rattle.mqb_model.specs.state.State.{State}
use Rattle.mqb_manager.specs.States.{ManagerState}
use Rattle.mqb_manager.proofs.manager.Manager.put_chosen.Goals as goal

pub put_sending-requires-clause-peer : goal.put_sending-requires-clause-peer
put_sending-requires-clause-peer c =
    let is : c.contents-contents.result.now.lists ≡ c.args.self.now.store.state =
    ap (λ w. w.lists) c.contents-contents.ensures ∙ c.state.ensures.state ∙ ap (λ (x : ManagerState). x.store.state) c.self.view_is in
    subst (λ (s : State). c.args.sending.now.peer < length s.peers) (sym is) c.requires.peer

pub put_sending-requires-clause-there : goal.put_sending-requires-clause-there
put_sending-requires-clause-there c =
    let is : c.contents-contents.result.now.lists ≡ c.args.self.now.store.state =
    ap (λ w. w.lists) c.contents-contents.ensures ∙ c.state.ensures.state ∙ ap (λ (x : ManagerState). x.store.state) c.self.view_is in
    subst (λ (s : State). All (IsThere s) c.args.sending.now.choices.choices) (sym is) c.requires.there

pub put_sending-requires-clause-room : goal.put_sending-requires-clause-room
put_sending-requires-clause-room c =
    let is : c.contents-contents.result.now.lists ≡ c.args.self.now.store.state =
    ap (λ w. w.lists) c.contents-contents.ensures ∙ c.state.ensures.state ∙ ap (λ (x : ManagerState). x.store.state) c.self.view_is in
    subst (λ (s : State). length c.args.out.now.items + bytes_in s c.args.sending.now.choices.choices ≤ vec_capacity c.args.out.now) (sym is) c.requires.room

pub returns-clause-put : goal.returns-clause-put
returns-clause-put c =
    let is : c.contents-contents.result.now.lists ≡ c.args.self.now.store.state =
    ap (λ w. w.lists) c.contents-contents.ensures ∙ c.state.ensures.state ∙ ap (λ (x : ManagerState). x.store.state) c.self.view_is in
    subst (λ (s : State). IsSomeAnd (slice_get s.peers c.args.sending.now.peer) (λ to. c.put_sending.new.out.items ≡ c.args.out.now.items
    ++ flat_map (λ given. plain_spelling (packet_for to.guid c.args.now given)) (shown_in s c.args.sending.now.choices.choices))) is c.put_sending.ensures.put

pub returns-clause-fits : goal.returns-clause-fits
returns-clause-fits c =
    let is : c.contents-contents.result.now.lists ≡ c.args.self.now.store.state =
    ap (λ w. w.lists) c.contents-contents.ensures ∙ c.state.ensures.state ∙ ap (λ (x : ManagerState). x.store.state) c.self.view_is in
    subst (λ (s : State). IsSomeAnd (slice_get s.peers c.args.sending.now.peer)
    (λ to. All (λ given. IsPacket (packet_for to.guid c.args.now given)) (shown_in s c.args.sending.now.choices.choices))) is c.put_sending.ensures.fits
