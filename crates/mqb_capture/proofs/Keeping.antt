-- A chain for each sequence decides what the relation over all pairs says.
use Rattle.std.proofs.Common.{◌≡◌, ◌<◌, ◌⊎◌, ◌↔◌, List, [], ◌∷◌, ◌++◌, inl, inr, sym, ap, ◌∙◌, arith}
use Rattle.std.specs.List.{AllByRecursion}
use Rattle.mqb_base.specs.declared.message.Message.{Message}
use Rattle.mqb_capture.specs.Links.{AreLinked, AreOfOneSequence, AreSameMessage, Fit, Link}
use Rattle.mqb_capture.specs.Chains.{Follows, FollowsLast, Keeps, NeighboursDecide, PrecedesFirst, Repeats, RepeatsSome}
use Rattle.mqb_capture.proofs.Lists.{all_back, all_both, all_front, all_map}
use Rattle.mqb_capture.proofs.Chains.{chain_fits, chain_insert, fits_itself}

pub all_two : {X : Type 0} (P Q : X → Type 0) (xs : List X) → AllByRecursion P xs → AllByRecursion Q xs → AllByRecursion (λ x. P x × Q x) xs
all_two P Q [] p q = tt
all_two P Q (x ∷ xs) p q = ((p.0, q.0), all_two P Q xs p.1 q.1)

one_back : (a b : Link) → AreOfOneSequence a b → AreOfOneSequence b a
one_back a b o = record { destination = sym o.destination; sequence = sym o.sequence }

one_on : (a b c : Link) → AreOfOneSequence a b → AreOfOneSequence b c → AreOfOneSequence a c
one_on a b c o p = record { destination = o.destination ∙ p.destination; sequence = o.sequence ∙ p.sequence }

same_back : (a b : Message) → AreSameMessage a b → AreSameMessage b a
same_back a b e = ap (λ (m : Message). record m { reach = a.reach }) (sym e)

same_on : (a b c : Message) → AreSameMessage a b → AreSameMessage b c → AreSameMessage a c
same_on a b c e f = ap (λ (m : Message). record m { reach = c.reach }) e ∙ f

repeats_back : (a b : Link) → Repeats a b → Repeats b a
repeats_back a b r = record { one = one_back a b r.one; number = sym r.number; previous = sym r.previous; message = same_back a.message b.message r.message }

-- a message that repeats another fits where that fits

fit_first : (a b n : Link) → Repeats a b → Fit b n → Fit a n
fit_first a b n r f = record {
  later = λ one less. (let most = f.later (one_on b a n (one_back a b r.one) one) (omega (arith, less, r.number)) in omega (arith, most, r.number));
  again = λ one same. (let is = f.again (one_on b a n (one_back a b r.one) one) (sym r.number ∙ same) in (r.previous ∙ is.0, same_on a.message b.message n.message r.message is.1));
}

fit_second : (n a b : Link) → Repeats a b → Fit n b → Fit n a
fit_second n a b r f = record {
  later = λ one less. (let most = f.later (one_on n a b one r.one) (omega (arith, less, r.number)) in omega (arith, most, r.previous));
  again = λ one same. (let is = f.again (one_on n a b one r.one) (same ∙ r.number) in (is.0 ∙ sym r.previous, same_on n.message b.message a.message is.1 (same_back a.message b.message r.message)));
}

apart_first : (a n : Link) → (AreOfOneSequence a n → ⊥) → Fit a n
apart_first a n other = record { later = λ one. absurd (other one); again = λ one. absurd (other one) }

apart_second : (a n : Link) → (AreOfOneSequence a n → ⊥) → Fit n a
apart_second a n other = record { later = λ one. absurd (other (one_back n a one)); again = λ one. absurd (other (one_back n a one)) }

-- what holds of all holds of the one that is repeated
pub repeated : (P : Link → Type 0) (a : Link) (links : List Link) → RepeatsSome a links → AllByRecursion P links → (b : Link) × Repeats a b × P b
repeated P a [] some all = absurd some
repeated P a (b ∷ links) (inl r) all = (b, r, all.0)
repeated P a (b ∷ links) (inr some) all = repeated P a links some all.1

-- One more.

pub linked_more : (came : List Link) (n : Link) → AreLinked came → n.tx.previous < n.tx.number → AllByRecursion (λ a. Fit a n) came → AllByRecursion (Fit n) came → AreLinked (came ++ n ∷ [])
linked_more came n linked below before behind = record {
  below = all_both (λ a. a.tx.previous < a.tx.number) came (n ∷ []) linked.below (below, tt);
  fit = all_both (λ a. AllByRecursion (Fit a) (came ++ n ∷ [])) came (n ∷ [])
      (all_map (λ a. AllByRecursion (Fit a) came × Fit a n) (λ a. AllByRecursion (Fit a) (came ++ n ∷ [])) came (λ a both. all_both (Fit a) came (n ∷ []) both.0 (both.1, tt))
      (all_two (λ a. AllByRecursion (Fit a) came) (λ a. Fit a n) came linked.fit before))
      (all_both (Fit n) came (n ∷ []) behind (fits_itself n, tt), tt);
}

pub linked_last : (came : List Link) (n : Link) → AreLinked (came ++ n ∷ []) → (n.tx.previous < n.tx.number) × AllByRecursion (λ a. Fit a n) came
linked_last came n linked = (
  (all_back (λ a. a.tx.previous < a.tx.number) came (n ∷ []) linked.below).0,
  all_map (λ a. AllByRecursion (Fit a) (came ++ n ∷ [])) (λ a. Fit a n) came (λ a each. (all_back (Fit a) came (n ∷ []) each).0)
      (all_front (λ a. AllByRecursion (Fit a) (came ++ n ∷ [])) came (n ∷ []) linked.fit),
)

kept_fits : (chain : List Link) (n a : Link) → AllByRecursion (λ e. Fit e n × Fit n e) chain → ((AreOfOneSequence a n → ⊥) ⊎ RepeatsSome a chain) → Fit a n × Fit n a
kept_fits chain n a fit (inl other) = (apart_first a n other, apart_second a n other)
kept_fits chain n a fit (inr some) = (let r = repeated (λ e. Fit e n × Fit n e) a chain some fit in (fit_first a r.0 n r.1 r.2.0, fit_second n a r.0 r.1 r.2.1))

-- in a chain each fits the one at a place
at_place : (front : List Link) (n : Link) (back : List Link) → AllByRecursion (λ a. AllByRecursion (Fit a) (front ++ n ∷ back)) (front ++ n ∷ back) → AllByRecursion (λ e. Fit e n × Fit n e) (front ++ back)
at_place front n back fit =
    let to_n = all_map (λ a. AllByRecursion (Fit a) (front ++ n ∷ back)) (λ a. Fit a n) (front ++ n ∷ back) (λ a each. (all_back (Fit a) front (n ∷ back) each).0) fit in
    let of_n : AllByRecursion (Fit n) (front ++ n ∷ back) = (all_back (λ a. AllByRecursion (Fit a) (front ++ n ∷ back)) front (n ∷ back) fit).0 in
    let without : (P : Link → Type 0) → AllByRecursion P (front ++ n ∷ back) → AllByRecursion P (front ++ back) =
    λ P all. all_both P front back (all_front P front (n ∷ back) all) (all_back P front (n ∷ back) all).1 in
    all_two (λ e. Fit e n) (Fit n) (front ++ back) (without (λ e. Fit e n) to_n) (without (Fit n) of_n)

may_come : (front : List Link) (n : Link) (back came : List Link) → NeighboursDecide front n back came → n.tx.previous < n.tx.number → FollowsLast front n → PrecedesFirst n back → AreLinked (came ++ n ∷ [])
may_come front n back came d below last first =
    let fit = at_place front n back (chain_fits (front ++ n ∷ back) (chain_insert front n back d.chain last first)) in
    let each = all_map (λ a. (AreOfOneSequence a n → ⊥) ⊎ RepeatsSome a (front ++ back)) (λ a. Fit a n × Fit n a) came (λ a kept. kept_fits (front ++ back) n a fit kept) d.keeps.all in
    linked_more came n d.linked below (all_map (λ a. Fit a n × Fit n a) (λ a. Fit a n) came (λ a f. f.0) each) (all_map (λ a. Fit a n × Fit n a) (Fit n) came (λ a f. f.1) each)

-- The tests pass where it is linked.

follows_last : (front : List Link) (n : Link) → AllByRecursion (λ e. Follows e n) front → FollowsLast front n
follows_last [] n all = tt
follows_last (a ∷ []) n all = all.0
follows_last (a ∷ b ∷ front) n all = follows_last (b ∷ front) n all.1

precedes_first : (n : Link) (back : List Link) → AllByRecursion (λ e. Follows n e) back → PrecedesFirst n back
precedes_first n [] all = tt
precedes_first n (a ∷ back) all = all.0

tests_pass : (front : List Link) (n : Link) (back came : List Link) → NeighboursDecide front n back came → AreLinked (came ++ n ∷ []) → (n.tx.previous < n.tx.number) × FollowsLast front n × PrecedesFirst n back
tests_pass front n back came d linked =
    let chain = front ++ back in
    let last = linked_last came n linked in
    let behind : AllByRecursion (Fit n) came = all_front (Fit n) came (n ∷ []) (all_back (λ a. AllByRecursion (Fit a) (came ++ n ∷ [])) came (n ∷ []) linked.fit).0 in
    let before_n = all_map (λ e. RepeatsSome e came) (λ e. Fit e n) chain (λ e some. (let r = repeated (λ a. Fit a n) e came some last.1 in fit_first e r.0 n r.1 r.2)) d.keeps.only in
    let behind_n = all_map (λ e. RepeatsSome e came) (Fit n) chain (λ e some. (let r = repeated (Fit n) e came some behind in fit_second n e r.0 r.1 r.2)) d.keeps.only in
    let front_all = all_two (λ e. Fit e n × AreOfOneSequence e n) (λ e. e.tx.number < n.tx.number) front
    (all_front (λ e. Fit e n × AreOfOneSequence e n) front back (all_two (λ e. Fit e n) (λ e. AreOfOneSequence e n) chain before_n d.keeps.one)) d.place.0 in
    let back_all = all_two (λ e. Fit n e × AreOfOneSequence e n) (λ e. n.tx.number < e.tx.number) back
    (all_back (λ e. Fit n e × AreOfOneSequence e n) front back (all_two (Fit n) (λ e. AreOfOneSequence e n) chain behind_n d.keeps.one)) d.place.1 in (
      last.0,
      follows_last front n (all_map (λ e. (Fit e n × AreOfOneSequence e n) × (e.tx.number < n.tx.number)) (λ e. Follows e n) front (λ e f. record { rises = f.1; links = f.0.0.later f.0.1 f.1 }) front_all),
      precedes_first n back (all_map (λ e. (Fit n e × AreOfOneSequence e n) × (n.tx.number < e.tx.number)) (λ e. Follows n e) back (λ e f. record { rises = f.1; links = f.0.0.later (one_back e n f.0.1) f.1 }) back_all),
    )

pub neighbours_are_enough : (front : List Link) (n : Link) (back came : List Link) → NeighboursDecide front n back came
    → AreLinked (came ++ n ∷ []) ↔ ((n.tx.previous < n.tx.number) × FollowsLast front n × PrecedesFirst n back)
neighbours_are_enough front n back came d = (tests_pass front n back came d, λ tests. may_come front n back came d tests.0 tests.1 tests.2)

-- What comes again.

again_may : (came : List Link) (n a : Link) → AreLinked came → Repeats n a → AllByRecursion (λ b. Fit b a) came → AllByRecursion (Fit a) came → a.tx.previous < a.tx.number → AreLinked (came ++ n ∷ [])
again_may came n a linked r before behind below =
    linked_more came n linked (omega (arith, below, r.number, r.previous)) (all_map (λ b. Fit b a) (λ b. Fit b n) came (λ b f. fit_second b n a r f) before) (all_map (Fit a) (Fit n) came (λ b f. fit_first n a b r f) behind)

pub again_is_the_same : (chain came : List Link) (n e : Link) → Keeps chain came n → AreLinked came → AreOfOneSequence e n → RepeatsSome e came → e.tx.number ≡ n.tx.number
    → AreLinked (came ++ n ∷ []) ↔ ((n.tx.previous ≡ e.tx.previous) × AreSameMessage n.message e.message)
again_is_the_same chain came n e keeps linked one some same = (
  (λ more. (let r = repeated (λ a. Fit a n) e came some (linked_last came n more).1 in
      let is = (fit_first e r.0 n r.1 r.2).again one same in
      (sym is.0, same_back e.message n.message is.1))),
  (λ is. (let to_e = turned came linked in
      let r = repeated (λ a. (AllByRecursion (λ b. Fit b a) came × AllByRecursion (Fit a) came) × (a.tx.previous < a.tx.number)) e came some
      (all_two (λ a. AllByRecursion (λ b. Fit b a) came × AllByRecursion (Fit a) came) (λ a. a.tx.previous < a.tx.number) came
      (all_two (λ a. AllByRecursion (λ b. Fit b a) came) (λ a. AllByRecursion (Fit a) came) came to_e linked.fit) linked.below) in
      let n_e : Repeats n e = record { one = one_back e n one; number = sym same; previous = is.0; message = is.1 } in
      again_may came n r.0 linked (repeats_on n e r.0 n_e r.1) r.2.0.0 r.2.0.1 r.2.1)),
)
  where
    repeats_on : (a b c : Link) → Repeats a b → Repeats b c → Repeats a c
    repeats_on a b c r s = record { one = one_on a b c r.one s.one; number = r.number ∙ s.number; previous = r.previous ∙ s.previous; message = same_on a.message b.message c.message r.message s.message }

    rows : (some all : List Link) → AllByRecursion (λ a. AllByRecursion (Fit a) some) all → AllByRecursion (λ b. AllByRecursion (λ a. Fit a b) all) some
    rows [] all fit = tt
    rows (b ∷ some) all fit = (all_map (λ a. AllByRecursion (Fit a) (b ∷ some)) (λ a. Fit a b) all (λ a each. each.0) fit, rows some all (all_map (λ a. AllByRecursion (Fit a) (b ∷ some)) (λ a. AllByRecursion (Fit a) some) all (λ a each. each.1) fit))

    turned : (came : List Link) → AreLinked came → AllByRecursion (λ b. AllByRecursion (λ a. Fit a b) came) came
    turned came linked = rows came came linked.fit
