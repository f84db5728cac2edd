-- Pumps in a row.
use Rattle.std.proofs.Common.{◌≡◌, ◌+◌, ◌-◌, ◌<◌, Bool, true, false, cond, List, ◌++◌, Option, None, Result, ℕ, suc, refl, sym, ap, subst, inl, inr, ◌∙◌, zero-add, arith}
use Rattle.std.proofs.lemmas.Grind.{flat_map-append}
use Rattle.mqb_packet.specs.Plain.{plain_spelling}
use Rattle.mqb_stream.specs.Framing.{Framing}
use Rattle.mqb_model.specs.calls.pump.Pump.{PumpOutcome, pump}
use Rattle.mqb_serving.specs.declared.purpose.Purpose.{Purpose}
use Rattle.mqb_model.specs.declared.faults.PumpFault.{PumpFault}
use Rattle.mqb_serving.specs.Conversations.{Conversation, End, StoredManager, at_rest, bytes_of, end_after, gave, pumped, sent_some, stored_after}
use Rattle.mqb_serving.specs.Laws.{Begins}
use Rattle.mqb_serving.specs.declared.faults.ConnFault.{ConnFault}
use Rattle.mqb_serving.specs.Steps.{Gives, IsPumped, IsSameSide, Itself, PumpStops, PumpsBy, Reaches, Stands, Stops}
use Rattle.mqb_serving.specs.Serving.{IsNext}
use Rattle.mqb_serving.proofs.Points.{within_itself}
use Rattle.mqb_serving.proofs.Stopping.{gives_none, gives_then, left_map, stops_here, stops_then}
use Rattle.mqb_serving.proofs.Taking.{begins_behind}

-- what the next pump comes to
abbrev next_pump : Conversation → PumpOutcome
next_pump d = pump d.stored.manager d.now

-- so many pumps lead from one conversation to another: those that follow are the same
abbrev pub IsAhead : ℕ → Conversation → Conversation → Type 0
IsAhead i c d = (k : ℕ) → pumped (i + k) c ≡ pumped k d

pumped_more : (k : ℕ) (d : Conversation) → sent_some (next_pump d).answer ≡ true → pumped (suc k) d ≡ pumped k (gave (next_pump d) d)
pumped_more k d some = ap (λ (b : Bool). cond b (pumped k (gave (next_pump d) d)) (at_rest (next_pump d).answer (gave (next_pump d) d))) some

pumped_last : (k : ℕ) (d : Conversation) → sent_some (next_pump d).answer ≡ false → pumped (suc k) d ≡ at_rest (next_pump d).answer (gave (next_pump d) d)
pumped_last k d none = ap (λ (b : Bool). cond b (pumped k (gave (next_pump d) d)) (at_rest (next_pump d).answer (gave (next_pump d) d))) none

pumped_one : (d : Conversation) → IsSameSide (pumped 1 d) (gave (next_pump d) d)
pumped_one d = at (sent_some (next_pump d).answer)
  where
    at : (b : Bool) → IsSameSide (cond b (pumped 0 (gave (next_pump d) d)) (at_rest (next_pump d).answer (gave (next_pump d) d))) (gave (next_pump d) d)
    at true = record { manager = refl; now = refl; given = refl }
    at false = record { manager = refl; now = refl; given = refl }

ahead_more : (i : ℕ) (c d : Conversation) → IsAhead i c d → sent_some (next_pump d).answer ≡ true → IsAhead (i + 1) c (gave (next_pump d) d)
ahead_more i c d ahead some k =
    let e : i + 1 + k ≡ i + suc k = omega arith in
    ap (λ (n : ℕ). pumped n c) e ∙ ahead (suc k) ∙ pumped_more k d some

-- Where the code stands behind some of them.
pub record Pumps (c : Conversation) (i : ℕ) (before after : Option (List ℕ)) (asks : Purpose) (moment : ℕ) (m : StoredManager) (f : Framing) : Type 0 where
  pub at : Conversation
  pub ahead : IsAhead i c at
  pub stands : Stands at asks moment m f
  pub gives : Gives c at before after

-- One more.

-- the pump of the code is that of the conversation
pumped_at : (d : Conversation) (asks : Purpose) (moment : ℕ) (m n : StoredManager) (f : Framing) (a b : Option (List ℕ)) (r : Result ℕ PumpFault) → Stands d asks moment m f
    → IsPumped m moment n a b r → IsPumped d.stored d.now n a b r
pumped_at d asks moment m n f a b r s p =
    subst (λ (k : StoredManager). IsPumped k d.now n a b r) (sym s.manager) (subst (λ (t : ℕ). IsPumped m t n a b r) (sym s.now) p)

stopped_at : (d : Conversation) (asks : Purpose) (moment : ℕ) (m n : StoredManager) (f : Framing) (a b : Option (List ℕ)) (why : ConnFault) → Stands d asks moment m f
    → PumpStops m moment n a b why → PumpStops d.stored d.now n a b why
stopped_at d asks moment m n f a b why s p =
    subst (λ (k : StoredManager). PumpStops k d.now n a b why) (sym s.manager) (subst (λ (t : ℕ). PumpStops m t n a b why) (sym s.now) p)

gave_given : (c d : Conversation) (x y z : Option (List ℕ)) (n : StoredManager) (r : Result ℕ PumpFault) → Gives c d x y → IsPumped d.stored d.now n y z r → Gives c (gave (next_pump d) d) x z
gave_given c d x y z n r g p = gives_then c d (gave (next_pump d) d) x y z g (record { packets = (next_pump d).packets; given = refl; took = p.took })

pub pumps_more : (c : Conversation) (i : ℕ) (x y z : Option (List ℕ)) (asks : Purpose) (moment : ℕ) (m n : StoredManager) (f : Framing) (r : Result ℕ PumpFault) (some : Bool)
    → Pumps c i x y asks moment m f → IsPumped m moment n y z r → some ≡ sent_some r → some ≡ true → Pumps c (i + 1) x z asks moment n f
pumps_more c i x y z asks moment m n f r some s p is went =
    let d = s.at in
    let q = pumped_at d asks moment m n f y z r s.stands p in
    record {
      at = gave (next_pump d) d;
      ahead = ahead_more i c d s.ahead (ap sent_some (sym q.answer) ∙ sym is ∙ went);
      stands = record { purpose = s.stands.purpose; now = s.stands.now; manager = sym q.manager; framing = s.stands.framing; end = s.stands.end };
      gives = gave_given c d x y z n r s.gives q;
    }

-- They come to rest.

rest_reached : (c d : Conversation) (x z : Option (List ℕ)) (asks : Purpose) (moment : ℕ) (m n : StoredManager) (f : Framing) (r : Result ℕ PumpFault) (end : Option End)
    → Stands d asks moment m f → r ≡ (next_pump d).answer → n ≡ stored_after d.stored (next_pump d) → Gives c (gave (next_pump d) d) x z → end ≡ end_after r asks n.manager
    → Reaches c (at_rest (next_pump d).answer (gave (next_pump d) d)) x z asks moment n f end
rest_reached c d x z asks moment m n f r end s answer manager gives is =
    let o = next_pump d in
    let e : end_after o.answer d.purpose (stored_after d.stored o).manager ≡ end =
    ap (λ (q : Result ℕ PumpFault). end_after q d.purpose (stored_after d.stored o).manager) (sym answer)
    ∙ ap (λ (k : StoredManager). end_after r d.purpose k.manager) (sym manager)
    ∙ ap (λ (t : Purpose). end_after r t n.manager) s.purpose ∙ sym is in
    record {
      gives = record { packets = gives.packets; given = gives.given; took = gives.took };
      manager = sym manager;
      end = e;
      stands = λ none. record { purpose = s.purpose; now = s.now; manager = sym manager; framing = s.framing; end = e ∙ none };
    }

pub pumps_rest : (most : ℕ) (c : Conversation) (i : ℕ) (x y z : Option (List ℕ)) (asks : Purpose) (moment : ℕ) (m n : StoredManager) (f : Framing) (r : Result ℕ PumpFault) (some : Bool) (end : Option End)
    → i < most → Pumps c i x y asks moment m f → IsPumped m moment n y z r → some ≡ sent_some r → some ≡ false → end ≡ end_after r asks n.manager
    → Reaches c (pumped most c) x z asks moment n f end
pumps_rest most c i x y z asks moment m n f r some end less s p is went ends =
    let d = s.at in
    let q = pumped_at d asks moment m n f y z r s.stands p in
    let k = most - suc i in
    let e : most ≡ i + suc k = omega (arith, less) in
    let same : pumped most c ≡ at_rest (next_pump d).answer (gave (next_pump d) d) =
    ap (λ (j : ℕ). pumped j c) e ∙ s.ahead (suc k) ∙ pumped_last k d (ap sent_some (sym q.answer) ∙ sym is ∙ went) in
    subst (λ (t : Conversation). Reaches c t x z asks moment n f end) (sym same)
    (rest_reached c d x z asks moment m n f r end s.stands q.answer q.manager (gave_given c d x y z n r s.gives q) ends)

-- or there were too many
pub pumps_all : (most : ℕ) (c : Conversation) (i : ℕ) (x y : Option (List ℕ)) (asks : Purpose) (moment : ℕ) (m : StoredManager) (f : Framing) → i ≡ most → Pumps c i x y asks moment m f
    → Reaches c (pumped most c) x y asks moment m f None
pumps_all most c i x y asks moment m f all s =
    let d = s.at in
    let e : most ≡ i + 0 = omega (arith, all) in
    let same : pumped most c ≡ d = ap (λ (j : ℕ). pumped j c) e ∙ s.ahead 0 in
    subst (λ (t : Conversation). Reaches c t x y asks moment m f None) (sym same)
    (record { gives = s.gives; manager = s.stands.manager; end = s.stands.end; stands = λ none. s.stands })

-- One of them stops.

pub pumps_stop : (c : Conversation) (i : ℕ) (x y z : Option (List ℕ)) (asks : Purpose) (moment : ℕ) (m n : StoredManager) (f : Framing) (why : ConnFault)
    → Pumps c i x y asks moment m f → PumpStops m moment n y z why → Stops (Itself c) c x z n why
pumps_stop c i x y z asks moment m n f why s p =
    stops_then (Itself c) (Itself c) c d x y z n why (within_itself (Itself c)) s.gives
    (inr (record {
      from = c;
      pumps = i + 0;
      start = (c.stored, None, (refl, refl));
      manager = ap (λ (t : Conversation). t.stored) (sym (s.ahead 0));
      now = ap (λ (t : Conversation). t.now) (sym (s.ahead 0));
      given = ap (λ (t : Conversation). t.given) (sym (s.ahead 0));
    }))
    (by_stop (stopped_at d asks moment m n f y z why s.stands p))
  where
    d : Conversation
    d = s.at

    o : PumpOutcome
    o = next_pump d

    one : IsSameSide (pumped (i + 1) c) (gave o d)
    one = subst (λ (t : Conversation). IsSameSide t (gave o d)) (sym (s.ahead 1)) (pumped_one d)

    by_stop : PumpStops d.stored d.now n y z why → Stops (Itself c) d y z n why
    by_stop (inl h) = stops_here (Itself c) d y z n why h.1 (left_map (PumpsBy d.stored d.now) (IsNext (Itself c) d.stored d.now) why d.stored n (λ r is. inl is) h.0)
    by_stop (inr h) = record {
      at = gave o d;
      past = inr (record { from = c; pumps = i + 1; start = (c.stored, None, (refl, refl)); manager = one.manager; now = one.now; given = one.given });
      written = h.1.written;
      took = h.1.took;
      begins = subst (λ (t : List ℕ). Begins (bytes_of d.given ++ h.1.written) t) (sym (flat_map-append plain_spelling d.given o.packets))
          (begins_behind (bytes_of d.given) h.1.written (bytes_of o.packets) (h.1.left, sym h.1.whole));
      left = left_map (λ _. ⊥) (IsNext (Itself c) (gave o d).stored d.now) why (gave o d).stored n (λ r none. absurd none) h.0;
    }
