-- What a packet leaves of the end that hears it, whatever it brings.
use Rattle.std.proofs.Common.{◌≡◌, ℕ, suc, ◌+◌, ◌≤◌, ◌==◌, ◌&&◌, true, false, cond, not, List, [], ◌∷◌, ◌++◌, Option, Some, None, Err, refl, sym, ap, subst, ◌∙◌, arith}
use Rattle.std.proofs.lemmas.Bool.Decides.{nat_tests}
use Rattle.std.proofs.lemmas.List.Elements.{All-from_recursion, recursion_from_All}
use Rattle.std.specs.List.{AllByRecursion}
use Rattle.std.specs.Option.{option_map_or}
use Rattle.std.specs.Prelude.{All, IfSome, IsNone, length, map, option_and_then, slice_get, sum, unwrap_or}
use Rattle.mqb_base.specs.Same.{same_guid}
use Rattle.mqb_base.specs.declared.heads.SessionHead.{SessionHead}
use Rattle.mqb_base.specs.declared.heard.Cause.TheVariants as cause
use Rattle.mqb_base.specs.declared.heard.Heard.{Heard as Answer}
use Rattle.mqb_base.specs.declared.ids.Identity.{Identity}
use Rattle.mqb_base.specs.declared.message.Message.{Message}
use Rattle.mqb_model.specs.Lists.{grown}
use Rattle.mqb_model.specs.calls.hear.Hear.{hear, hear_behind, hear_linked, hear_user, listening}
use Rattle.mqb_model.specs.calls.hear.Session.{Listening, arrival_entry, heard_as, is_foreign, is_from, no_head, numbers_released, released_of, user_heard}
use Rattle.mqb_model.specs.declared.faults.HearFault.TheVariants as fault
use Rattle.mqb_model.specs.managers.Beside.{without_acked}
use Rattle.mqb_model.specs.managers.Manager.{Manager, Rest, Up, is_down, linked_peer, rest_for}
use Rattle.mqb_model.specs.managers.Outcomes.{answering, recorded, state_after, succeeded, unless}
use Rattle.mqb_model.specs.managers.Valid.{BearMarks, IsLinkedWell, IsSessionOf, IsUnsent}
use Rattle.mqb_model.specs.records.Arrived.{part_made}
use Rattle.mqb_model.specs.records.Record.{Decided, Final, Nothing, OrderAcknowledged, Part, Stored}
use Rattle.mqb_model.specs.records.Record as entry
use Rattle.mqb_model.specs.records.Releases.{releases_made}
use Rattle.mqb_model.specs.state.Places.{with_plain}
use Rattle.mqb_model.specs.state.Resolving.{peer_known}
use Rattle.mqb_model.specs.state.State.{State}
use Rattle.mqb_packet.specs.declared.packet.Packet.{Packet}
use Rattle.mqb_packet.specs.declared.packet.Packet.TheVariants as packet
use Rattle.mqb_packet.specs.declared.packet.UserPacket.{UserPacket}
use Rattle.mqb_plain.specs.Plain.{PlainLists}
use Rattle.mqb_plain.specs.declared.outgoing.Outgoing.{Outgoing}
use Rattle.mqb_session.specs.Hearing.{closing, heard_head}
use Rattle.mqb_session.specs.Sending.{is_ready}
use Rattle.mqb_session.specs.State as one_end
use Rattle.mqb_session.specs.declared.heads.HeadHeard.{HeadHeard}
use Rattle.mqb_session.specs.declared.heads.HeadHeard.TheVariants as head
use Rattle.mqb_law_meetings.specs.Work.{state_work, work_for}
use Rattle.mqb_law_meetings.proofs.Firsts.{all_got, all_weaker, changed_same, sum_cons}
use Rattle.mqb_law_meetings.proofs.Members.{grown_same}
use Rattle.mqb_law_meetings.proofs.Noticing.{IsFresh, ordinary_in}
use Rattle.mqb_law_meetings.proofs.Releasing.{Clears, all_unmarked, clears_none, clears_one, none_released, one_released}
use Rattle.mqb_law_meetings.proofs.Turns.{AreRaised, Heard, Hears, Pends, credit, sent_last}

unsent_of : (p : PlainLists) → IsFresh p → IsUnsent p
unsent_of p f = record {
  recoverable = All-from_recursion (λ (o : Outgoing). IsNone o.mark) p.recoverable (each p.recoverable f.unsent);
  express = subst (All (λ (o : Outgoing). IsNone o.mark)) (sym f.express) (All-from_recursion (λ (o : Outgoing). IsNone o.mark) [] tt);
}
  where
    each : (items : List Outgoing) → AllByRecursion (λ o. o.mark ≡ None) items → AllByRecursion (λ o. IsNone o.mark) items
    each [] h = tt
    each (o ∷ items) h = (subst IsNone (sym h.0) refl, each items h.1)

none_acked : (number : ℕ) (p : PlainLists) → IsFresh p → without_acked number p ≡ p
none_acked number p f = ap (λ xs. without_acked number (record p { express = xs })) f.express ∙ ap (λ xs. record p { express = xs }) (sym f.express)

no_first : (n : ℕ) → (suc n == 0) ≡ false
no_first n = grind (arith, nat_tests)

-- what of a state's rows and of what it heard a part of a record leaves
pub record Takes (s t : State) (k lowers raises : ℕ) : Type 0 where
  pub identity : t.identity ≡ s.identity
  pub peers : t.peers ≡ s.peers
  pub fresh : AllByRecursion IsFresh t.plain
  pub ordinary : option_map_or ordinary_in (slice_get t.plain k) 0 ≤ option_map_or ordinary_in (slice_get s.plain k) 0
  pub raised : AreRaised s.outs t.outs
  pub count : length t.outs ≡ length s.outs
  pub work : (o : State) → state_work t + credit s o k + lowers ≤ state_work s + credit t o k + raises

module _ (m : Manager) (b : one_end.State) (l : ℕ) (peer : Identity) (h : Hears m b l peer) where
  down : is_down m ≡ false
  down = rw h.up refl

  called : (p : Packet) (now : ℕ) → hear m p now ≡ hear_linked m now p b
  called p now = ap (λ t. unless m (cond t (Some fault.Down) None) (option_map_or (hear_linked m now p) m.rest.session (answering m (Err fault.NotLinked)))) down
      ∙ ap (λ o. option_map_or (hear_linked m now p) o (answering m (Err fault.NotLinked))) h.linked

  pub session : IsSessionOf m.state b
  session = subst (λ o. IsLinkedWell m.state Up o) h.linked (subst (λ c. IsLinkedWell m.state c m.rest.session) h.up h.valid.session)

  pub linked_to : linked_peer m.state b ≡ l
  linked_to = ap (λ o. unwrap_or (option_and_then (peer_known m.state) o) (length m.state.peers)) h.who ∙ ap (λ o. unwrap_or o (length m.state.peers)) h.knows

  -- a user packet of the peer, for this manager, in order
  pub user_called : (u : UserPacket) (now : ℕ) (given : SessionHead) (y : one_end.State) → u.session ≡ Some given → u.to ≡ m.state.identity.guid
      → same_guid u.message.id.qm peer.guid ≡ true → same_guid m.state.identity.guid m.state.identity.guid ≡ true → heard_head given b ≡ (head.InOrder, y)
      → hear m (packet.User u) now ≡ hear_user (listening m y now) true u
  user_called u now given y said to from itself header = called (packet.User u) now ∙ ap (λ (g : HeadHeard × one_end.State). hear_behind m now u g.0 g.1) heard
    where
      both : (is_from b u.message && same_guid u.to m.state.identity.guid) ≡ true
      both = ap (λ o. option_map_or (same_guid u.message.id.qm) o false && same_guid u.to m.state.identity.guid) h.who
          ∙ ap (λ t. t && same_guid u.to m.state.identity.guid) from ∙ ap (λ g. same_guid g m.state.identity.guid) to ∙ itself

      near : (is_ready b.phase && is_foreign m.state b u) ≡ false
      near = ap (λ t. is_ready b.phase && not t) both ∙ ap (λ p. is_ready p && false) h.ready

      heard : user_heard m.state b u ≡ (head.InOrder, y)
      heard = ap (λ t. cond t (closing cause.Foreign b) (heard_head (unwrap_or u.session no_head) b)) near ∙ ap (λ o. heard_head (unwrap_or o no_head) b) said ∙ header

  pub ack_called : (given : SessionHead) (now : ℕ) → hear m (packet.Ack given) now ≡ hear_linked m now (packet.Ack given) b
  ack_called given now = called (packet.Ack given) now

  module _ (ps : List Message) (pd : Pends m b l ps) where
    pub record Releases : Type 0 where
      pub numbers : List ℕ
      pub are : released_of b.recoverable_sent pd.lists ≡ numbers
      pub clears : Clears m.state (releases_made m.state numbers).state (sum (map work_for ps))

    bears : BearMarks b l 0 m.state.plain
    bears = subst (λ k. BearMarks b k 0 m.state.plain) linked_to session.marks

    express : AllByRecursion (λ p. p.express ≡ []) m.state.plain
    express = recursion_from_All (λ (p : PlainLists). p.express ≡ []) m.state.plain h.express

    unsent : AllByRecursion (λ o. o.mark ≡ None) pd.rest
    unsent = all_unmarked pd.rest (recursion_from_All (λ (o : Outgoing). IsNone o.mark) pd.rest pd.unsent)

    pub releases : Releases
    releases = by ps refl
      where
        by : (qs : List Message) → ps ≡ qs → Releases
        by [] is = let are : pd.lists.recoverable ≡ pd.rest = pd.are ∙ ap (λ qs. map (sent_last b) qs ++ pd.rest) is in record {
          numbers = [];
          are = none_released m.state h.valid.state b l bears express pd.lists pd.there b.recoverable_sent pd.rest unsent are;
          clears = subst (λ qs. Clears m.state m.state (sum (map work_for qs))) (sym is)
              (clears_none m.state h.valid.state b l bears express pd.lists pd.there b.recoverable_sent pd.rest unsent are);
        }
        by (q ∷ []) is = let are : pd.lists.recoverable ≡ record { message = q; mark = Some b.recoverable_sent } ∷ pd.rest = pd.are ∙ ap (λ qs. map (sent_last b) qs ++ pd.rest) is in record {
          numbers = q.id.number ∷ [];
          are = one_released m.state h.valid.state b l bears express pd.lists pd.there b.recoverable_sent pd.rest unsent q are;
          clears = subst (λ qs. Clears m.state (releases_made m.state (q.id.number ∷ [])).state (sum (map work_for qs))) (sym is)
              (subst (Clears m.state (releases_made m.state (q.id.number ∷ [])).state) (let e = sum_cons (work_for q) [] in let f : work_for q ≡ sum (work_for q ∷ []) = omega (arith, e) in f)
              (clears_one m.state h.valid.state b l bears express pd.lists pd.there b.recoverable_sent pd.rest unsent q are));
        }
        by (q ∷ r ∷ qs) is = absurd (let e = ap length is in let f = pd.single in omega (arith, e, f))

    -- what is there once the promised messages are released
    abbrev pub base : State
    base = (releases_made m.state releases.numbers).state

    pub base_clears : Clears m.state base (sum (map work_for ps))
    base_clears = releases.clears

    -- a packet is heard as this, behind a header that leaves such a session
    module _ (y : one_end.State) (now : ℕ) (who : y.peer ≡ b.peer) (acks : y.recoverable_acked ≡ b.recoverable_sent) (part : Part) (answer : Answer) where
      abbrev here : Listening
      here = listening m y now

      peer_is : linked_peer m.state y ≡ l
      peer_is = ap (λ o. unwrap_or (option_and_then (peer_known m.state) o) (length m.state.peers)) who ∙ linked_to

      numbers_are : numbers_released here ≡ releases.numbers
      numbers_are = ap (λ k. option_map_or (released_of y.recoverable_acked) (slice_get m.state.plain k) []) peer_is
          ∙ ap (λ o. option_map_or (released_of y.recoverable_acked) o []) pd.there ∙ ap (λ n. released_of n pd.lists) acks ∙ releases.are

      recorded_is : recorded m.state (arrival_entry here part) ≡ (part_made now (releases_made m.state (numbers_released here)) part).state
      recorded_is = by part
        where
          nothing : (ns : List ℕ) → recorded m.state (cond (length ns == 0) None (Some (entry.Arrived now ns Nothing))) ≡ (releases_made m.state ns).state
          nothing [] = refl
          nothing (n ∷ ns) = ap (λ t. recorded m.state (cond t None (Some (entry.Arrived now (n ∷ ns) Nothing)))) (no_first (length ns))

          by : (q : Part) → recorded m.state (arrival_entry here q) ≡ (part_made now (releases_made m.state (numbers_released here)) q).state
          by Nothing = nothing (numbers_released here)
          by (Decided u) = refl
          by (Stored u) = refl
          by (OrderAcknowledged ordinal number) = refl
          by (Final u) = refl

      abbrev pub made : State
      made = (part_made now (releases_made m.state releases.numbers) part).state

      made_is : AllByRecursion IsFresh made.plain → state_after m (heard_as here part answer) ≡ made
      made_is fresh = ap (λ s. with_plain (without_acked y.acked) s (linked_peer m.state y)) (recorded_is ∙ ap (λ ns. (part_made now (releases_made m.state ns) part).state) numbers_are)
          ∙ ap (λ ps. record made { plain = ps }) (changed_same (without_acked y.acked) made.plain (linked_peer m.state y) (at (slice_get made.plain (linked_peer m.state y)) refl))
        where
          at : (o : Option PlainLists) → slice_get made.plain (linked_peer m.state y) ≡ o → IfSome o (λ p. without_acked y.acked p ≡ p)
          at None e = tt
          at (Some p) e = none_acked y.acked p (all_got IsFresh made.plain (linked_peer m.state y) p e fresh)

      -- the manager behind it, with what belongs to the connection
      module _ (rest : Rest) (told : rest.session ≡ Some y) (cursors : rest.cursors ≡ m.rest.cursors) (lowers raises : ℕ) (takes : Takes m.state made l lowers raises) where
        abbrev pub behind : Manager
        behind = record m { state = made; rest = rest_for made rest }

        pub behind_is : succeeded m (record (heard_as here part answer) { rest = rest }) ≡ behind
        behind_is = ap (λ s. record m { state = s; rest = rest_for s rest }) (made_is takes.fresh)

        pub heard_behind : Heard m behind l y lowers raises
        heard_behind = record {
          up = h.up;
          linked = told;
          identity = takes.identity;
          peers = takes.peers;
          express = All-from_recursion (λ (p : PlainLists). p.express ≡ []) made.plain (all_weaker IsFresh (λ (p : PlainLists). p.express ≡ []) (λ p f. f.express) made.plain takes.fresh);
          unsent = All-from_recursion IsUnsent made.plain (all_weaker IsFresh IsUnsent unsent_of made.plain takes.fresh);
          ordinary = takes.ordinary;
          cursors = ap (grown 0 (length made.outs)) cursors ∙ grown_same 0 m.rest.cursors (length made.outs) (h.valid.cursors ∙ sym takes.count);
          raised = takes.raised;
          count = takes.count;
          work = takes.work;
        }
