-- What choosing comes to in the end.
use Rattle.std.proofs.Common.{◌≡◌, ℕ, Bool, true, false, List, [], ◌∷◌, ◌++◌, length, map, Option, Some, None, refl, sym, ap, subst, ◌∙◌, append_assoc}
use Rattle.std.proofs.lemmas.List.{append-nil, length-map}
use Rattle.std.specs.List.{AllByRecursion, cons_option}
use Rattle.std.specs.Option.{option_map_or}
use Rattle.std.specs.Prelude.{◌==◌, ◌||◌, IsSomeAnd, filter_map, not, slice_get, sum_by}
use Rattle.mqb_base.specs.declared.ids.Identity.{Identity}
use Rattle.mqb_base.specs.declared.message.Lane.TheVariants.{Durable, Express}
use Rattle.mqb_plain.specs.Plain.{PlainLists}
use Rattle.mqb_session.specs.State as one_end
use Rattle.mqb_model.specs.calls.pump.Candidates.{Candidate, acks, candidates}
use Rattle.mqb_model.specs.calls.pump.Choosing.{candidate_size, chosen, session_after, session_behind, with_heads}
use Rattle.mqb_model.specs.managers.Manager.{Rest}
use Rattle.mqb_model.specs.state.State.{State}
use Rattle.mqb_choosing.specs.Choices.{AreSendable, IsSendable, shown}
use Rattle.mqb_choosing.specs.Going.{Chosen, Going, Offers, any_waits, candidates_to, coming_to, nothing_chosen, owing, unsent_in, waiting_in}
use Rattle.mqb_choosing.proofs.Offers.{coming, same_chosen, with_more}
use Rattle.mqb_choosing.proofs.Sendable.{candidates_sendable}

pub offers_join : (s : State) (a b c : Going) (p q : List Candidate) → Offers s a b p → Offers s b c q → Offers s a c (p ++ q)
offers_join s a b c p q one two next = two next ∙ one (q ++ next) ∙ ap (coming_to s a) (sym (append_assoc p q next))

or_false : (b : Bool) → (b || false) ≡ b
or_false true = refl
or_false false = refl

-- where nothing is next
pub end_is : (s : State) (g : Going) → coming_to s g [] ≡ coming (map (shown s) g.choices) g.session g.bytes (any_waits g)
end_is s g = at g.more
  where
    at : (more : Bool) → coming_to s (with_more g more) [] ≡ coming (map (shown s) g.choices) g.session g.bytes (any_waits (with_more g more))
    at true = same_chosen (map (shown s) g.choices ++ []) (map (shown s) g.choices) g.session g.bytes (not (length g.choices == 0) || false) (not (length g.choices == 0))
        (append-nil (map (shown s) g.choices)) (or_false (not (length g.choices == 0)))
    at false = same_chosen (map (shown s) g.choices ++ []) (map (shown s) g.choices) g.session g.bytes true true (append-nil (map (shown s) g.choices)) refl

pub record Ended (s : State) (start : one_end.State) (g : Going) (cs : List Candidate) : Type 0 where
  pub packets : map (shown s) g.choices ≡ map (λ given. Some given) (with_heads start (chosen start 0 0 cs))
  pub session : g.session ≡ session_behind start (chosen start 0 0 cs)
  pub bytes : g.bytes ≡ sum_by candidate_size (chosen start 0 0 cs)
  pub any : any_waits g ≡ not (length cs == 0)

pub ended : (s : State) (session : one_end.State) (g : Going) (cs : List Candidate) → Offers s (nothing_chosen session) g cs → Ended s session g cs
ended s session g cs offers = record {
  packets = ap (λ (x : Chosen). x.packets) same;
  session = ap (λ (x : Chosen). x.session) same;
  bytes = ap (λ (x : Chosen). x.bytes) same;
  any = ap (λ (x : Chosen). x.any) same;
}
  where
    same : coming (map (shown s) g.choices) g.session g.bytes (any_waits g) ≡ coming_to s (nothing_chosen session) cs
    same = sym (end_is s g) ∙ offers [] ∙ ap (coming_to s (nothing_chosen session)) (append-nil cs)

-- where each is shown, those that are shown are all
pub all_shown : {X Y : Type 0} (f : X → Option Y) (xs : List X) (ys : List Y) → map f xs ≡ map (λ y. Some y) ys → filter_map f xs ≡ ys
all_shown f [] [] same = refl
all_shown f [] (y ∷ ys) same = absurd (let none : ⊥ = cc in none)
all_shown f (x ∷ xs) [] same = absurd (let none : ⊥ = cc in none)
all_shown {X} {Y} f (x ∷ xs) (y ∷ ys) same =
    let first : f x ≡ Some y = cc in
    let rest : map f xs ≡ map (λ y. Some y) ys = cc in
    ap (λ (o : Option Y). cons_option o (filter_map f xs)) first ∙ ap (λ (ys : List Y). y ∷ ys) (all_shown f xs ys rest)

pub each_shown : {X Y : Type 0} (P : Y → Type 0) (f : X → Option Y) (xs : List X) (ys : List Y) → map f xs ≡ map (λ y. Some y) ys → AllByRecursion P ys
    → AllByRecursion (λ x. IsSomeAnd (f x) P) xs
each_shown P f [] [] same h = tt
each_shown P f [] (y ∷ ys) same h = absurd (let none : ⊥ = cc in none)
each_shown P f (x ∷ xs) [] same h = absurd (let none : ⊥ = cc in none)
each_shown {X} {Y} P f (x ∷ xs) (y ∷ ys) same h =
    let first : f x ≡ Some y = cc in
    let rest : map f xs ≡ map (λ y. Some y) ys = cc in
    (subst (λ (o : Option Y). IsSomeAnd o P) (sym first) h.0, each_shown P f xs ys rest h.1)

-- Each part of what could go to a peer was offered.
pub all_offered : (s : State) (a b c d e : Going) (rest : Rest) (now k : ℕ) (peer : Identity) → slice_get s.peers k ≡ Some peer
    → Offers s a b (acks s peer now s.next_express (owing s rest.owes peer.guid))
    → IsSomeAnd (slice_get s.plain k) (λ p. Offers s b c (unsent_in Durable p)) → IsSomeAnd (slice_get s.plain k) (λ p. Offers s c d (unsent_in Express p))
    → Offers s d e (waiting_in s rest.cursors k) → Offers s a e (candidates_to s rest now k)
all_offered s a b c d e rest now k peer here told recoverable express rows =
    subst (λ (o : Option Identity). Offers s a e (option_map_or (λ peer. option_map_or (candidates s rest now k peer) (slice_get s.plain k) []) o [])) (sym here)
    (at (slice_get s.plain k) recoverable express)
  where
    at : (o : Option PlainLists) → IsSomeAnd o (λ p. Offers s b c (unsent_in Durable p)) → IsSomeAnd o (λ p. Offers s c d (unsent_in Express p))
        → Offers s a e (option_map_or (candidates s rest now k peer) o [])
    at None x y = absurd x
    at (Some p) x y =
        offers_join s a d e (acks s peer now s.next_express (owing s rest.owes peer.guid) ++ (unsent_in Durable p ++ unsent_in Express p)) (waiting_in s rest.cursors k)
        (offers_join s a b d (acks s peer now s.next_express (owing s rest.owes peer.guid)) (unsent_in Durable p ++ unsent_in Express p) told
        (offers_join s b c d (unsent_in Durable p) (unsent_in Express p) x y)) rows

pub waiting_sendable : (s : State) (rest : Rest) (now k : ℕ) → AreSendable s → AllByRecursion IsSendable (candidates_to s rest now k)
waiting_sendable s rest now k h = at (slice_get s.peers k) refl
  where
    lists : (peer : Identity) → slice_get s.peers k ≡ Some peer → (o : Option PlainLists) → slice_get s.plain k ≡ o
        → AllByRecursion IsSendable (option_map_or (candidates s rest now k peer) o [])
    lists peer here None there = tt
    lists peer here (Some p) there = candidates_sendable s rest now k peer p h here there

    at : (o : Option Identity) → slice_get s.peers k ≡ o
        → AllByRecursion IsSendable (option_map_or (λ peer. option_map_or (candidates s rest now k peer) (slice_get s.plain k) []) o [])
    at None here = tt
    at (Some peer) here = lists peer here (slice_get s.plain k) refl

-- The candidates are as many, and the same.

pub headed : (session : one_end.State) (cs : List Candidate) → map (λ given. given.0) (with_heads session cs) ≡ cs
headed session [] = refl
headed session (c ∷ cs) = ap (λ (cs : List Candidate). c ∷ cs) (headed (session_after session c) cs)

pub as_many : {X Y Z : Type 0} (f : X → Option Y) (g : Y → Z) (xs : List X) (ys : List Y) (zs : List Z) → map f xs ≡ map (λ y. Some y) ys → map g ys ≡ zs → length xs ≡ length zs
as_many f g xs ys zs shown same =
    sym (length-map xs f) ∙ ap length shown ∙ length-map ys (λ y. Some y) ∙ sym (length-map ys g) ∙ ap length same
