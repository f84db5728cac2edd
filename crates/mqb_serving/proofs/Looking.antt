-- What the framer answers is done, and what is held is looked at.
use Rattle.std.proofs.Common.{◌≡◌, ◌+◌, ◌==◌, Bool, true, false, cond, List, Option, None, Some, Result, Ok, Err, ℕ, length, refl, sym, ap, subst, inr, ◌∙◌}
use Rattle.std.specs.Option.{option_map_or, option_or}
use Rattle.mqb_fields.specs.declared.faults.HeadFault.{HeadFault}
use Rattle.mqb_packet.specs.Parts.{PacketParts, packet_of}
use Rattle.mqb_packet.specs.declared.packet.Packet.{Packet}
use Rattle.mqb_stream.specs.Framing.{Answer, Broken, Framing, Wants, Whole, advanced, next}
use Rattle.mqb_model.specs.calls.hear.Hear.{hear}
use Rattle.mqb_serving.specs.declared.purpose.Purpose.{Purpose}
use Rattle.mqb_model.specs.records.Record.{Record}
use Rattle.mqb_serving.specs.Conversations.{Conversation, End, StoredManager, answered, count_read, ended, heard, heard_as, limited, pumped, stored_after}
use Rattle.mqb_serving.specs.declared.faults.ConnFault.{ConnFault}
use Rattle.mqb_serving.specs.declared.faults.PeerFault.TheVariants as fault
use Rattle.mqb_serving.specs.declared.limits.TheConstants.{MAX_PUMPS, MAX_READ}
use Rattle.mqb_serving.specs.Serving.{IsNext, heard_by, hearing}
use Rattle.mqb_serving.specs.Steps.{Goes, HearsBy, HearsHeld, IsHeard, Itself, LeftBy, Reaches, Stands, Stops}
use Rattle.mqb_serving.proofs.Points.{IsWithin}
use Rattle.mqb_serving.proofs.Stopping.{gives_from, gives_none, left_map, stops_here, stops_then}

module _ (c : Conversation) (asks : Purpose) (moment : ℕ) (m : StoredManager) (f : Framing) (s : Stands c asks moment m f) (a b : Option (List ℕ)) where
  next_is : (answer : Answer) → next f ≡ answer → answered (next c.framing) c ≡ answered answer c
  next_is answer is = ap (λ (t : Answer). answered t c) (ap next s.framing ∙ is)

  -- more is wanted
  pub answer_wants : (n : StoredManager) (g : Framing) (need : ℕ) → next f ≡ Wants need → n ≡ m → g ≡ f → b ≡ a → Reaches c (answered (next c.framing) c) a b asks moment n g None
  answer_wants n g need is kept framer same =
      subst (λ (t : Conversation). Reaches c t a b asks moment n g None) (sym (next_is (Wants need) is))
      (record {
        gives = gives_none c c a b refl same;
        manager = s.manager ∙ sym kept;
        end = s.end;
        stands = λ none. record { purpose = s.purpose; now = s.now; manager = s.manager ∙ sym kept; framing = s.framing ∙ sym framer; end = s.end };
      })

  -- it ends
  ends_so : (d : Conversation) (n : StoredManager) (g : Framing) (end : End) → d.given ≡ c.given → d.stored ≡ c.stored → d.end ≡ Some end → n ≡ m → b ≡ a
      → Reaches c d a b asks moment n g (Some end)
  ends_so d n g end given manager ends kept same = record {
    gives = gives_none c d a b given same;
    manager = manager ∙ s.manager ∙ sym kept;
    end = ends;
    stands = λ none. absurd (let wrong : ⊥ = cc in wrong);
  }

  -- what is held begins no packet
  pub answer_broken : (n : StoredManager) (g : Framing) (why : HeadFault) (place : ℕ) → next f ≡ Broken why place → n ≡ m → b ≡ a
      → Reaches c (answered (next c.framing) c) a b asks moment n g (Some (Err (fault.Bad place why)))
  answer_broken n g why place is kept same =
      subst (λ (t : Conversation). Reaches c t a b asks moment n g (Some (Err (fault.Bad place why)))) (sym (next_is (Broken why place) is))
      (ends_so (ended (Err (fault.Bad place why)) c) n g (Err (fault.Bad place why)) refl refl refl kept same)

  module _ (frame : List ℕ) (is : next f ≡ Whole frame) where
    -- as it is once the frame was taken
    abbrev dropped : Conversation
    dropped = record c { framing = advanced c.framing }

    read_is : (read : Result PacketParts HeadFault) → packet_of frame ≡ read → answered (next c.framing) c ≡ heard_as c.framing.place read dropped
    read_is read same = next_is (Whole frame) is ∙ ap (λ (t : Result PacketParts HeadFault). heard_as c.framing.place t dropped) same

    -- it is no packet
    pub answer_bad : (n : StoredManager) (g : Framing) (why : HeadFault) (place : ℕ) → packet_of frame ≡ Err why → place ≡ f.place → n ≡ m → b ≡ a
        → Reaches c (answered (next c.framing) c) a b asks moment n g (Some (Err (fault.Bad place why)))
    answer_bad n g why place read at kept same =
        let e : place ≡ c.framing.place = at ∙ sym (ap (λ (t : Framing). t.place) s.framing) in
        subst (λ (t : Conversation). Reaches c t a b asks moment n g (Some (Err (fault.Bad place why)))) (sym (read_is (Err why) read))
        (ends_so (ended (Err (fault.Bad c.framing.place why)) dropped) n g (Err (fault.Bad place why)) refl refl
        (ap (λ (t : ℕ). Some (Err (fault.Bad t why))) (sym e)) kept same)

    -- it is a packet, behind which the manager pumps
    module _ (n : StoredManager) (h : IsHeard frame m moment n) where
      pub listening : Conversation
      listening = hearing dropped h.packet

      pub listening_stands : (g : Framing) → g ≡ advanced f → Stands listening asks moment n g
      unfolding listening
      listening_stands g drops = record {
        purpose = s.purpose;
        now = s.now;
        manager = ap (λ (k : StoredManager). stored_after k (hear k.manager h.packet c.now)) s.manager ∙ ap (λ (t : ℕ). stored_after m (hear m.manager h.packet t)) s.now ∙ sym h.manager;
        framing = ap advanced s.framing ∙ sym drops;
        end = s.end;
      }

      pumped_is : answered (next c.framing) c ≡ pumped MAX_PUMPS listening
      unfolding listening
      pumped_is = read_is (Ok h.spells.parts) h.spells.read ∙ ap (λ (p : Option Packet). option_map_or (heard dropped) p dropped) h.spells.said

      starts_here : HearsHeld c c.stored (heard_by c h.packet) listening
      unfolding listening
      starts_here = record { frame = frame; packet = h.packet; whole = ap next s.framing ∙ is; spells = h.spells; manager = refl; comes_to = refl; heard = refl }

      starts_so : IsWithin (Itself listening) (HearsHeld c)
      starts_so = record {
        start = λ from k. (c.stored, heard_by c h.packet, subst (HearsHeld c c.stored (heard_by c h.packet)) (sym k.2.1) starts_here);
        next = λ m r from k. absurd (let wrong : ⊥ = cc k.0 in wrong);
      }

      listening_given : listening.given ≡ c.given
      unfolding listening
      listening_given = refl

      pub answer_heard : (k : StoredManager) (g : Framing) (asks_now : Purpose) (moment_now : ℕ) (r : Result (Option End) ConnFault)
          → Goes (Itself listening) listening (pumped MAX_PUMPS listening) a b asks_now moment_now k g r
          → Goes (HearsHeld c) c (answered (next c.framing) c) a b asks_now moment_now k g r
      answer_heard k g asks_now moment_now (Ok end) r =
          subst (λ (t : Conversation). Reaches c t a b asks_now moment_now k g end) (sym pumped_is)
          (record {
            gives = gives_from c listening (pumped MAX_PUMPS listening) a b listening_given r.gives;
            manager = r.manager;
            end = r.end;
            stands = r.stands;
          })
      answer_heard k g asks_now moment_now (Err why) r =
          stops_then (Itself listening) (HearsHeld c) c listening a a b k why starts_so
          (gives_none c listening a a listening_given refl)
          (inr (record { from = listening; pumps = 0; start = (c.stored, heard_by c h.packet, starts_here); manager = refl; now = refl; given = refl })) r

    -- the disk failed under its record
    next_here : (r : Record) → HearsBy frame m moment r → IsNext (HearsHeld c) c.stored c.now r
    next_here r h = inr (
      hearing dropped h.packet,
      record {
        frame = frame;
        packet = h.packet;
        whole = ap next s.framing ∙ is;
        spells = h.spells;
        manager = refl;
        comes_to = ap (λ (k : StoredManager). (hear k.manager h.packet c.now).entry) s.manager ∙ ap (λ (t : ℕ). (hear m.manager h.packet t).entry) s.now ∙ h.comes_to;
        heard = refl;
      },
    )

    -- a call of the manager stops it
    pub answer_stopped : (n : StoredManager) (why : ConnFault) → LeftBy why (HearsBy frame m moment) m n → b ≡ a → Stops (HearsHeld c) c a b n why
    answer_stopped n why left same = stops_here (HearsHeld c) c a b n why same
        (subst (λ (k : StoredManager). LeftBy why (IsNext (HearsHeld c) c.stored c.now) k n) (sym s.manager)
        (left_map (HearsBy frame m moment) (IsNext (HearsHeld c) c.stored c.now) why m n next_here left))

-- The limit.

limit_at : (c d : Conversation) (a b : Option (List ℕ)) (asks : Purpose) (moment : ℕ) (m : StoredManager) (f : Framing) (end : End) (most : Bool)
    → Reaches c d a b asks moment m f (Some end) → Reaches c (cond most (record d { end = option_or d.end (Some (Err fault.TooMuch)) }) d) a b asks moment m f (Some end)
limit_at c d a b asks moment m f end true r = record {
  gives = record { packets = r.gives.packets; given = r.gives.given; took = r.gives.took };
  manager = r.manager;
  end = ap (λ (e : Option End). option_or e (Some (Err fault.TooMuch))) r.end;
  stands = λ none. absurd (let wrong : ⊥ = cc in wrong);
}
limit_at c d a b asks moment m f end false r = r

-- the end is the same at the limit
pub limit_ended : (c d : Conversation) (a b : Option (List ℕ)) (asks : Purpose) (moment : ℕ) (m : StoredManager) (f : Framing) (end : End)
    → Reaches c d a b asks moment m f (Some end) → Reaches c (limited d) a b asks moment m f (Some end)
limit_ended c d a b asks moment m f end r = limit_at c d a b asks moment m f end (count_read d == MAX_READ) r

count_is : (c d : Conversation) (a b : Option (List ℕ)) (asks : Purpose) (moment : ℕ) (m : StoredManager) (f : Framing) (came : ℕ)
    → Reaches c d a b asks moment m f None → came ≡ f.place + length f.held → came ≡ count_read d
count_is c d a b asks moment m f came r is = is ∙ sym (ap (λ (g : Framing). g.place + length g.held) ((r.stands refl).framing))

-- too many bytes came
pub limit_reached : (c d : Conversation) (a b : Option (List ℕ)) (asks : Purpose) (moment : ℕ) (m : StoredManager) (f g : Framing) (came : ℕ) → came ≡ f.place + length f.held
    → (came == MAX_READ) ≡ true → Reaches c d a b asks moment m f None → Reaches c (limited d) a b asks moment m g (Some (Err fault.TooMuch))
limit_reached c d a b asks moment m f g came is most r =
    let same : limited d ≡ record d { end = option_or d.end (Some (Err fault.TooMuch)) } =
    ap (λ (t : Bool). cond t (record d { end = option_or d.end (Some (Err fault.TooMuch)) }) d)
    (ap (λ (t : ℕ). t == MAX_READ) (sym (count_is c d a b asks moment m f came r is)) ∙ most) in
    subst (λ (t : Conversation). Reaches c t a b asks moment m g (Some (Err fault.TooMuch))) (sym same)
    (record {
      gives = record { packets = r.gives.packets; given = r.gives.given; took = r.gives.took };
      manager = r.manager;
      end = ap (λ (e : Option End). option_or e (Some (Err fault.TooMuch))) r.end;
      stands = λ none. absurd (let wrong : ⊥ = cc in wrong);
    })

-- or fewer
pub limit_far : (c d : Conversation) (a b : Option (List ℕ)) (asks : Purpose) (moment : ℕ) (m : StoredManager) (f : Framing) (came : ℕ) → came ≡ f.place + length f.held
    → (came == MAX_READ) ≡ false → Reaches c d a b asks moment m f None → Reaches c (limited d) a b asks moment m f None
limit_far c d a b asks moment m f came is less r =
    let same : limited d ≡ d =
    ap (λ (t : Bool). cond t (record d { end = option_or d.end (Some (Err fault.TooMuch)) }) d)
    (ap (λ (t : ℕ). t == MAX_READ) (sym (count_is c d a b asks moment m f came r is)) ∙ less) in
    subst (λ (t : Conversation). Reaches c t a b asks moment m f None) (sym same) r
