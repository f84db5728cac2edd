-- Lines that are put for messages, list behind list.
use Rattle.std.proofs.Common.{◌≡◌, ℕ, zero, suc, ◌+◌, ◌-◌, ◌<◌, ◌≤◌, Bool, true, false, List, [], ◌∷◌, ◌++◌, get_or, length, max, take, refl, sym, ap, ◌∙◌, subst, arith, append-nil, length-append, ◌⊎◌, inl, inr, Option, Some, None}
use Rattle.std.specs.List.{All, filter, flat_map}
use Rattle.std.specs.Option.{option_map, option_map_or}
use Rattle.std.proofs.lemmas.List.{take_more}
use Rattle.std.proofs.lemmas.List.Elements.{All-append, All-nil, All-weaker, filter-append}
use Rattle.std.proofs.lemmas.Grind.{flat_map-append}
use Rattle.mqb_base.specs.declared.ids.Identity.{Identity}
use Rattle.mqb_base.specs.declared.message.Lane.{Lane}
use Rattle.mqb_base.specs.declared.message.Message.{Message}
use Rattle.mqb_base.specs.declared.queues.EntryPlace.{EntryPlace}
use Rattle.mqb_queue.specs.First.{is_free, top_priority}
use Rattle.mqb_queue.specs.Lists.{Lists, messages_in}
use Rattle.mqb_queue.specs.Places.{Places, lists_at}
use Rattle.mqb_queue.proofs.Tops.{at_most_top}
use Rattle.mqb_commands.specs.Messages.{message_line}
use Rattle.mqb_commands.specs.Turns.{PutsFree, PutsTaken, TakenInTurn, held_at, is_free_of}
use Rattle.mqb_commands.proofs.Order.{by_priority, filter_keeps, filter_leaves}
use Rattle.mqb_transcript.specs.Printing.{Page, wrote}
use Rattle.mqb_transcript.specs.lemmas.Wrote.{hosts_wrote, wrote_nothing, wrote_twice}

-- of two lists so many members are those of the first, and of the second as many as may be left
taken_of_two : {X : Type 0} (n : ℕ) (xs ys : List X) → take n (xs ++ ys) ≡ take n xs ++ take (n - length xs) ys
taken_of_two zero [] ys = refl
taken_of_two zero (x ∷ xs) ys = let none : 0 - length (x ∷ xs) ≡ 0 = omega arith in rw none refl
taken_of_two (suc n) [] ys = let whole : suc n - 0 ≡ suc n = omega arith in rw whole refl
taken_of_two (suc n) (x ∷ xs) ys =
    let less : suc n - length (x ∷ xs) ≡ n - length xs = omega arith in
    rw less (ap (λ zs. x ∷ zs) (taken_of_two n xs ys))

-- lines behind lines
pub lines_then : {X : Type 0} (line : List Identity → X → List ℕ) (first middle last : Page) (n : ℕ) (xs ys : List X)
    → middle ≡ wrote first (flat_map (line first.hosts) (take n xs))
    → last ≡ wrote middle (flat_map (line middle.hosts) (take (n - length xs) ys))
    → last ≡ wrote first (flat_map (line first.hosts) (take n (xs ++ ys)))
lines_then line first middle last n xs ys one two =
    let hosts : middle.hosts ≡ first.hosts = ap (λ (p : Page). p.hosts) one ∙ hosts_wrote first (flat_map (line first.hosts) (take n xs)) in
    two ∙ ap (λ known. wrote middle (flat_map (line known) (take (n - length xs) ys))) hosts
    ∙ ap (λ p. wrote p (flat_map (line first.hosts) (take (n - length xs) ys))) one
    ∙ wrote_twice first (flat_map (line first.hosts) (take n xs)) (flat_map (line first.hosts) (take (n - length xs) ys))
    ∙ ap (wrote first) (sym (ap (flat_map (line first.hosts)) (taken_of_two n xs ys)
    ∙ flat_map-append (line first.hosts) (take n xs) (take (n - length xs) ys)))

module _ (at : EntryPlace) (now priority : ℕ) where
  pub none_put : (count : ℕ) (page : Page) → PutsFree at now priority count [] page page count
  none_put count page = record { put = sym (empty count); left = omega arith }
    where
      empty : (n : ℕ) → wrote page (flat_map (message_line page.hosts now) (take n [])) ≡ page
      empty zero = wrote_nothing page
      empty (suc n) = wrote_nothing page

  pub puts_then : (count middle_count more : ℕ) (xs ys : List Message) (first middle last : Page) → PutsFree at now priority count xs first middle middle_count
      → PutsFree at now priority middle_count ys middle last more → PutsFree at now priority count (xs ++ ys) first last more
  puts_then count middle_count more xs ys first middle last one two =
      let kept : filter (is_free_of at now priority) (xs ++ ys) ≡ filter (is_free_of at now priority) xs ++ filter (is_free_of at now priority) ys =
      filter-append (is_free_of at now priority) xs ys in
      let both : length (filter (is_free_of at now priority) (xs ++ ys)) ≡ length (filter (is_free_of at now priority) xs) + length (filter (is_free_of at now priority) ys) =
      ap length kept ∙ length-append (filter (is_free_of at now priority) xs) (filter (is_free_of at now priority) ys) in
      record {
        put = lines_then (λ hosts m. message_line hosts now m) first middle last count (filter (is_free_of at now priority) xs) (filter (is_free_of at now priority) ys) one.put
            (two.put ∙ ap (λ n. wrote middle (flat_map (message_line middle.hosts now) (take n (filter (is_free_of at now priority) ys)))) one.left)
            ∙ ap (λ ms. wrote first (flat_map (message_line first.hosts now) (take count ms))) (sym kept);
        left = omega (arith, one.left, two.left, both);
      }

  pub puts_more : (count middle_count more : ℕ) (xs : List Message) (k : ℕ) (x : Message) (first middle last : Page) → k < length xs → x ≡ get_or xs k x
      → PutsFree at now priority count (take k xs) first middle middle_count → PutsFree at now priority middle_count (x ∷ []) middle last more
      → PutsFree at now priority count (take (k + 1) xs) first last more
  puts_more count middle_count more xs k x first middle last within is one two =
      subst (λ ms. PutsFree at now priority count ms first last more)
      (sym (take_more xs k x within ∙ ap (λ y. take k xs ++ y ∷ []) (sym is)))
      (puts_then count middle_count more (take k xs) (x ∷ []) first middle last one two)

  -- of one message

  pub none_may : (m : Message) (page : Page) → PutsFree at now priority 0 (m ∷ []) page page 0
  none_may m page = record { put = sym (wrote_nothing page); left = omega arith }

  pub not_put : (count : ℕ) (m : Message) (page : Page) → is_free_of at now priority m ≡ false → PutsFree at now priority count (m ∷ []) page page count
  not_put count m page so =
      let kept : filter (is_free_of at now priority) (m ∷ []) ≡ [] = filter_leaves (is_free_of at now priority) m [] so in
      let none = none_put count page in
      record {
        put = none.put ∙ ap (λ ms. wrote page (flat_map (message_line page.hosts now) (take count ms))) (sym kept);
        left = none.left ∙ ap (λ ms. count - length ms) (sym kept);
      }

  pub one_put : (count : ℕ) (m : Message) (page next : Page) → 0 < count → is_free_of at now priority m ≡ true → next ≡ wrote page (message_line page.hosts now m)
      → PutsFree at now priority count (m ∷ []) page next (count - 1)
  one_put zero m page next some so put = absurd (omega (arith, some))
  one_put (suc count) m page next some so put =
      let kept : filter (is_free_of at now priority) (m ∷ []) ≡ m ∷ [] = filter_keeps (is_free_of at now priority) m [] so in
      record {
        put = put ∙ ap (wrote page) (sym (append-nil (message_line page.hosts now m)))
            ∙ ap (λ ms. wrote page (flat_map (message_line page.hosts now) ms)) (sym (alone count))
            ∙ ap (λ ms. wrote page (flat_map (message_line page.hosts now) (take (suc count) ms))) (sym kept);
        left = let one : length (filter (is_free_of at now priority) (m ∷ [])) ≡ 1 = ap length kept in omega (arith, one);
      }
    where
      alone : (n : ℕ) → take (suc n) (m ∷ []) ≡ m ∷ []
      alone zero = refl
      alone (suc n) = refl

-- By priorities.

-- the messages of a priority are put, and then those of the priorities below it
pub next_priority : (at : EntryPlace) (now p more left : ℕ) (held : List Message) (page next : Page) → PutsFree at now p more held page next left
    → wrote next (flat_map (message_line next.hosts now) (take left (by_priority (is_free at now) p held)))
    ≡ wrote page (flat_map (message_line page.hosts now) (take more (by_priority (is_free at now) (suc p) held)))
next_priority at now p more left held page next puts =
    let kept = filter (is_free_of at now p) held in
    let under = by_priority (is_free at now) p held in
    ap (λ n. wrote next (flat_map (message_line next.hosts now) (take n under))) puts.left
    ∙ lines_then (λ hosts m. message_line hosts now m) page next (wrote next (flat_map (message_line next.hosts now) (take (more - length kept) under)))
    more kept under puts.put refl

-- where no priority is left, or no more may be put, all is written
pub all_written : (at : EntryPlace) (now p more : ℕ) (held : List Message) (page : Page) → (p ≡ 0) ⊎ (more ≡ 0)
    → wrote page (flat_map (message_line page.hosts now) (take more (by_priority (is_free at now) p held))) ≡ page
all_written at now p more held page (inl none) = rw none (nothing more)
  where
    nothing : (n : ℕ) → wrote page (flat_map (message_line page.hosts now) (take n [])) ≡ page
    nothing zero = wrote_nothing page
    nothing (suc n) = wrote_nothing page
all_written at now p more held page (inr none) = rw none (wrote_nothing page)

-- No free message of two lists is above the greatest priority of both.
pub all_below : (free : Message → Bool) (top : ℕ) (xs ys : List Message) → top ≡ max (top_priority free xs) (top_priority free ys)
    → All (λ m. free m ≡ true → m.priority < top + 1) (xs ++ ys)
all_below free top xs ys is = All-append (λ m. free m ≡ true → m.priority < top + 1) xs ys
    (All-weaker (λ m. free m ≡ true → m.priority ≤ top_priority free xs) (λ m. free m ≡ true → m.priority < top + 1)
    (λ m under so. let low : m.priority ≤ top_priority free xs = under so in omega (arith, low, is)) xs (at_most_top free 0 xs))
    (All-weaker (λ m. free m ≡ true → m.priority ≤ top_priority free ys) (λ m. free m ≡ true → m.priority < top + 1)
    (λ m under so. let low : m.priority ≤ top_priority free ys = under so in omega (arith, low, is)) ys (at_most_top free 0 ys))

-- A place that is not there holds nothing that is taken.

none_taken : (free : Message → Bool) (count : ℕ) → TakenInTurn free count [] []
none_taken free zero = refl
none_taken free (suc count) = All-nil (λ m. free m ≡ false)

pub none_held : (at : EntryPlace) (count now : ℕ) (s : Places) (kind : Lane) (page : Page) → option_map (messages_in kind) (lists_at s at) ≡ None
    → PutsTaken at count now (held_at s at) page page
none_held at count now s kind page is = there (lists_at s at) is
  where
    there : (o : Option Lists) → option_map (messages_in kind) o ≡ None → PutsTaken at count now (option_map_or (λ l. l.durable ++ l.express) o []) page page
    there None none = record { taken = []; in_turn = none_taken (is_free at now) count; put = sym (wrote_nothing page) }
    there (Some l) none = absurd (let apart : Some (messages_in kind l) ≡ None = none in cc)
