-- What a front of a piece comes to.
use Rattle.std.proofs.Common.{[], ◌+◌, ◌++◌, ◌≡◌, ◌≢◌, ◌∙◌, ◌∷◌, ◌⊎◌, Err, List, None, Ok, Option, Result, Some, ap, append-nil, append_assoc, drop, inl, inr, length, refl, subst, sym, take, arith, ℕ}
use Rattle.std.proofs.lemmas.Bool.{eqb-true}
use Rattle.std.proofs.lemmas.List.Elements.{All-append}
use Rattle.std.proofs.lemmas.List.Quantifiers.{position-Some}
use Rattle.std.proofs.lemmas.List.{take_all, take_more}
use Rattle.std.specs.List.{position}
use Rattle.mqb_commands.specs.declared.status.Status.{Status}
use Rattle.mqb_commands.specs.declared.status.Status.TheVariants as status
use Rattle.mqb_shell.specs.Answered.{Answered, AnswersLine, DoesAsked, DoesLine, Keeps, StopsIn}
use Rattle.mqb_shell.specs.Lines.{IsCut, IsOneLine, asked_in}
use Rattle.mqb_shell.specs.Standing.{Standing}
use Rattle.mqb_shell.specs.declared.asking.TheConstants.{MAX_LINE}
use Rattle.mqb_words.specs.declared.commands.Command.{Command}
use Rattle.mqb_shell.proofs.Chains.{cut_none}
use Rattle.mqb_shell.proofs.Feeds.{cut_at, is_feed, line_before, one_line}
use Rattle.mqb_shell.proofs.Limits.{kept_asks}

-- two texts without a line feed
pub one_then : (x y : List ℕ) → IsOneLine x → IsOneLine y → IsOneLine (x ++ y)
one_then x y first second = All-append (λ (b : ℕ). b ≢ 10) x y first second

-- up to the line feed, and that
front_at : (text : List ℕ) (at : ℕ) → position is_feed text ≡ Some at → take (at + 1) text ≡ take at text ++ 10 ∷ []
front_at text at is =
    let found = position-Some is_feed text at 0 is in
    take_more text at 0 found.0 ∙ ap (λ (b : ℕ). take at text ++ b ∷ []) (eqb-true _ 10 found.1)

one_before : (held piece : List ℕ) (at : ℕ) → position is_feed piece ≡ Some at → IsOneLine held → IsOneLine (held ++ take at piece)
one_before held piece at feed one = one_then held (take at piece) one (line_before piece at feed)

-- What is kept of a line says what the line comes to.

line_does : (line kept : List ℕ) (steady : Option ℕ) (b a : Standing) (before after : Option (List ℕ)) (r : Status) → asked_in kept ≡ asked_in line
    → DoesLine kept steady b a before after r → DoesLine line steady b a before after r
line_does line kept steady b a before after r same does =
    subst (λ (asked : Result Command Status). DoesAsked asked steady b a before after r ⊎ ((r ≡ status.Memory) × (a ≡ b) × (after ≡ before))) same does

module _ {steady : Option ℕ} {held kept : List ℕ} {b : Standing} {before : Option (List ℕ)} (piece : List ℕ) where
  -- no line ends in it
  pub all_kept : (n : ℕ) → n ≡ length piece → position is_feed piece ≡ None → IsOneLine held → kept ≡ take (MAX_LINE + 1) (held ++ piece)
      → Keeps steady held (take n piece) kept b b before before
  all_kept n all none one is = record {
    held_now = held ++ piece;
    kept_of = is;
    goes = record {
      done = [];
      cut = subst (λ (front : List ℕ). IsCut (held ++ front) [] (held ++ piece)) (sym (take_all n piece (omega (arith, all)))) (cut_none (held ++ piece));
      one = one_then held piece one (one_line piece none);
      answers = (refl, refl);
    };
  }

-- memory ran out before a line was whole
pub stops_unasked : {steady : Option ℕ} {held piece : List ℕ} {b : Standing} {before : Option (List ℕ)} → StopsIn steady held piece b b before before status.Memory
stops_unasked {steady} {held} {piece} {b} {before} = record {
  done = [];
  rest = held ++ piece;
  mid = b;
  told = before;
  cut = cut_none (held ++ piece);
  answers = (refl, refl);
  stops = inr (refl, refl, refl);
}

module _ {steady : Option ℕ} {kept : List ℕ} {b a : Standing} {before after : Option (List ℕ)} (held piece : List ℕ) (at : ℕ) (feed : position is_feed piece ≡ Some at)
    (one : IsOneLine held) (is : kept ≡ take (MAX_LINE + 1) (held ++ take at piece)) where
  -- the line that ends in it was answered, and the shell goes on
  pub line_kept : {done : Unit {0}} → AnswersLine kept steady b a before after (Ok done) → Keeps steady held (take (at + 1) piece) [] b a before after
  line_kept answers =
      let line : List ℕ = held ++ take at piece in
      let x : Answered = record { line = line; end = answers.end; told = answers.told; taken = after; behind = a } in
      record {
        held_now = [];
        kept_of = refl;
        goes = record {
          done = x ∷ [];
          cut = record {
            whole = ap (λ (front : List ℕ). held ++ front) (front_at piece at feed) ∙ sym (append_assoc held (take at piece) (10 ∷ []))
                ∙ sym (append-nil (line ++ 10 ∷ [])) ∙ sym (append-nil ((line ++ 10 ∷ []) ++ []));
            each = (one_before held piece at feed one, tt);
          };
          one = λ k d within. absurd (omega (arith, within));
          answers = (
            record {
              does = line_does line kept steady b a before answers.told answers.end (kept_asks line kept is) answers.does;
              ended = answers.ends.1;
              goes_on = answers.ends.0;
            },
            (refl, refl),
          );
        };
      }

  -- or it ended with that
  pub line_stops : {r : Status} → AnswersLine kept steady b a before after (Err r) → StopsIn steady held piece b a before after r
  line_stops {r} answers =
      let line : List ℕ = held ++ take at piece in
      record {
        done = [];
        rest = held ++ piece;
        mid = b;
        told = before;
        cut = cut_none (held ++ piece);
        answers = (refl, refl);
        stops = inl (record {
          line = line;
          unread = drop (at + 1) piece;
          whole = ap (λ (t : List ℕ). held ++ t) (cut_at piece at feed) ∙ sym (append_assoc held (take at piece) (10 ∷ drop (at + 1) piece));
          one = one_before held piece at feed one;
          stops = record {
            end = answers.end;
            told = answers.told;
            does = line_does line kept steady b a before answers.told answers.end (kept_asks line kept is) answers.does;
            ends = answers.ends;
          };
        });
      }
