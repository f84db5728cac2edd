-- The same step, as the program says it.
use Rattle.std.proofs.Common.{◌≡◌, ◌≤◌, ◌<◌, ◌+◌, Bool, true, false, List, [], ◌∷◌, length, None, Option, Result, ℕ, refl, sym, ap, subst, ◌∙◌, arith}
use Rattle.mqb_stream.specs.Framing.{Framing, advanced, next, wants_more}
use Rattle.mqb_serving.specs.declared.purpose.Purpose.{Purpose}
use Rattle.mqb_model.specs.declared.faults.PumpFault.{PumpFault}
use Rattle.mqb_serving.specs.Conversations.{Conversation, End, StoredManager, end_after, no_bytes, pumped, sent_some}
use Rattle.mqb_serving.specs.declared.faults.ConnFault.{ConnFault}
use Rattle.mqb_serving.specs.declared.limits.TheConstants.{MAX_PUMPS, MAX_READ}
use Rattle.mqb_serving.specs.Steps.{IsPumped, Itself, PumpStops, Reaches, Stands, Stops}
use Rattle.mqb_serving.proofs.Pumping.{Pumps, pumps_all, pumps_more, pumps_rest, pumps_stop}

pub same_at : (i most : ℕ) → i ≤ most → most ≤ i → i ≡ most
same_at i most less more = omega arith

pub stands_at : (c : Conversation) (asks asks_now : Purpose) (moment moment_now : ℕ) (m : StoredManager) (f g : Framing) → asks_now ≡ asks → moment_now ≡ moment → g ≡ f
    → Stands c asks moment m f → Stands c asks_now moment_now m g
stands_at c asks asks_now moment moment_now m f g purpose time framer s = record {
  purpose = s.purpose ∙ sym purpose;
  now = s.now ∙ sym time;
  manager = s.manager;
  framing = s.framing ∙ sym framer;
  end = s.end;
}

pub reaches_at : (c d : Conversation) (x y : Option (List ℕ)) (asks asks_now : Purpose) (moment moment_now : ℕ) (m : StoredManager) (f g : Framing) (r : Option End) → asks_now ≡ asks → moment_now ≡ moment → g ≡ f
    → Reaches c d x y asks moment m f r → Reaches c d x y asks_now moment_now m g r
reaches_at c d x y asks asks_now moment moment_now m f g r purpose time framer h = record {
  gives = h.gives;
  manager = h.manager;
  end = h.end;
  stands = λ none. stands_at d asks asks_now moment moment_now m f g purpose time framer (h.stands none);
}

-- Pumps, whose moment stays.
module _ (c : Conversation) (i : ℕ) (x y z : Option (List ℕ)) (asks : Purpose) (moment before : ℕ) (m n : StoredManager) (f : Framing) (same : before ≡ moment) (p : Pumps c i x y asks moment m f) where
  pub more_at : (r : Result ℕ PumpFault) (some : Bool) → IsPumped m before n y z r → some ≡ sent_some r → some ≡ true → Pumps c (i + 1) x z asks moment n f
  more_at r some went is sent = pumps_more c i x y z asks moment m n f r some p (subst (λ (t : ℕ). IsPumped m t n y z r) same went) is sent

  pub rest_at : (asks_now : Purpose) (now : ℕ) (g : Framing) (r : Result ℕ PumpFault) (some : Bool) (end : Option End) → asks_now ≡ asks → now ≡ moment → g ≡ f → i < MAX_PUMPS
      → IsPumped m before n y z r → some ≡ sent_some r → some ≡ false → end ≡ end_after r asks_now n.manager → Reaches c (pumped MAX_PUMPS c) x z asks_now now n g end
  rest_at asks_now now g r some end purpose time framer less went is sent ends =
      reaches_at c (pumped MAX_PUMPS c) x z asks asks_now moment now n f g end purpose time framer
      (pumps_rest MAX_PUMPS c i x y z asks moment m n f r some end less p (subst (λ (t : ℕ). IsPumped m t n y z r) same went) is sent
      (ends ∙ ap (λ (t : Purpose). end_after r t n.manager) purpose))

  pub stop_at : (why : ConnFault) → PumpStops m before n y z why → Stops (Itself c) c x z n why
  stop_at why stops = pumps_stop c i x y z asks moment m n f why p (subst (λ (t : ℕ). PumpStops m t n y z why) same stops)

pub all_at : (c : Conversation) (i : ℕ) (x y : Option (List ℕ)) (asks asks_now : Purpose) (moment now : ℕ) (m : StoredManager) (f g : Framing) → asks_now ≡ asks → now ≡ moment → g ≡ f
    → i ≤ MAX_PUMPS → MAX_PUMPS ≤ i → Pumps c i x y asks moment m f → Reaches c (pumped MAX_PUMPS c) x y asks_now now m g None
all_at c i x y asks asks_now moment now m f g purpose time framer less more p =
    reaches_at c (pumped MAX_PUMPS c) x y asks asks_now moment now m f g None purpose time framer
    (pumps_all MAX_PUMPS c i x y asks moment m f (same_at i MAX_PUMPS less more) p)

-- a framer whose packet was dropped wants a base header
advanced_wants : (f : Framing) → wants_more (next (advanced f)) ≡ true
unfolding next
advanced_wants f = refl

pub wants_advanced : (f g : Framing) → g ≡ advanced f → wants_more (next g) ≡ true
wants_advanced f g is = ap (λ (t : Framing). wants_more (next t)) is ∙ advanced_wants f

pub none_left : (l : List ℕ) → length l ≡ 0 → l ≡ []
none_left [] e = refl
none_left (x ∷ l) e = absurd (omega (arith, e))

-- A framer that holds nothing.

pub none_wants : (f : Framing) → f ≡ no_bytes → wants_more (next f) ≡ true
none_wants f is = ap (λ (t : Framing). wants_more (next t)) is ∙ bytes_wanted
  where
    bytes_wanted : wants_more (next (advanced no_bytes)) ≡ true
    bytes_wanted = advanced_wants no_bytes

pub none_came : (f : Framing) (came : ℕ) → f ≡ no_bytes → came ≡ f.place + length f.held → came < MAX_READ
none_came f came is count = let zero : f.place + length f.held ≡ 0 = ap (λ (t : Framing). t.place + length t.held) is in omega (arith, zero, count)
