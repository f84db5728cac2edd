-- One string after another is added to a medium.
use Rattle.std.proofs.Common.{◌≡◌, ℕ, ◌+◌, ◌<◌, ◌≤◌, List, [], ◌∷◌, ◌++◌, length, refl, sym, ap, ◌∙◌, append_assoc, append-nil, arith, length-append}
use Rattle.std.proofs.lemmas.List.Sums.{sum_by-append}
use Rattle.std.specs.Prelude.{Err}
use Rattle.mqb_outside.specs.Strings.{bytes_in}
use Rattle.mqb_posts.specs.declared.faults.PostFault.{PostFault}
use Rattle.mqb_posts.specs.declared.faults.PostFault.TheVariants.{NetFull, Memory}
use Rattle.mqb_posts.specs.declared.posting.TheConstants.{MAX_MEDIUM}
use Rattle.mqb_posts.specs.Posting.{IsWithin, IsCutOff, HasFront, PostedBy}

pub none_posted : (before wanted : List (List ℕ)) → HasFront before before wanted
none_posted before wanted = record { front = []; rest = wanted; wanted_are = refl; added = sym (append-nil before) }

pub one_cut_off : (before : List (List ℕ)) (next : List ℕ) → MAX_MEDIUM < bytes_in before + length next → IsCutOff before before (next ∷ [])
one_cut_off before next full = record { front = []; next = next; rest = []; wanted_are = refl; added = sym (append-nil before); full = full }

-- A refusal of the next one is one of all that are wanted, of which these were added.
pub refused_behind : (a b c done rest wanted : List (List ℕ)) (one : List ℕ) (fault : PostFault) → b ≡ a ++ done → wanted ≡ done ++ one ∷ rest
    → PostedBy {T = Unit {0}} b c (one ∷ []) (Err fault) → PostedBy {T = Unit {0}} a c wanted (Err fault)
refused_behind a b c done rest wanted one NetFull added are cut = record {
  front = done ++ cut.front;
  next = cut.next;
  rest = cut.rest ++ rest;
  wanted_are = are ∙ ap (λ (xs : List (List ℕ)). done ++ (xs ++ rest)) cut.wanted_are
      ∙ ap (λ (xs : List (List ℕ)). done ++ xs) (append_assoc cut.front (cut.next ∷ cut.rest) rest)
      ∙ sym (append_assoc done cut.front (cut.next ∷ (cut.rest ++ rest)));
  added = cut.added ∙ ap (λ (xs : List (List ℕ)). xs ++ cut.front) added ∙ append_assoc a done cut.front;
  full = cut.full;
}
refused_behind a b c done rest wanted one Memory added are some = record {
  front = done ++ some.front;
  rest = some.rest ++ rest;
  wanted_are = are ∙ ap (λ (xs : List (List ℕ)). done ++ (xs ++ rest)) some.wanted_are
      ∙ ap (λ (xs : List (List ℕ)). done ++ xs) (append_assoc some.front some.rest rest)
      ∙ sym (append_assoc done some.front (some.rest ++ rest));
  added = some.added ∙ ap (λ (xs : List (List ℕ)). xs ++ some.front) added ∙ append_assoc a done some.front;
}
