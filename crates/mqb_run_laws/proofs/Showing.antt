-- The text of a run shows what was chosen in it, line by line.
use Rattle.std.proofs.Common.{List, [], ◌∷◌, ◌++◌, ◌≡◌, ◌∙◌, ap, append_assoc, refl, subst, sym, ℕ}
use Rattle.std.proofs.lemmas.List.{append_cancel_left}
use Rattle.std.specs.Prelude.{IsTrue, Ok, Result, Some, map}
use Rattle.mqb_history.specs.Choosing.{RepliesShowChoices, Sign}
use Rattle.mqb_network.specs.Choices.{Choice}
use Rattle.mqb_network.specs.Courses.{Course}
use Rattle.mqb_network.specs.Replies as network
use Rattle.mqb_network.specs.Runs.{IsRun, IsRunFrom, Move, after_run, answer, beginning, may, moved_on, replies_from}
use Rattle.mqb_replies.specs.declared.faults.AnswerFault.{AnswerFault}
use Rattle.mqb_runs.specs.Events.{event_of}
use Rattle.mqb_runs.specs.Hosts.{hosts}
use Rattle.mqb_runs.specs.Replies.{told}
use Rattle.mqb_runs.specs.Runs.{Played, lines_of, move_of, moves_of}
use Rattle.mqb_runs.specs.Texts.{reply_line, reply_lines}
use Rattle.mqb_runs.specs.lemmas.Growing.{course_one, run_one}
use Rattle.mqb_runs.specs.lemmas.Orderly.{hosts_apart}
use Rattle.mqb_script.specs.declared.events.Event.{Event}
use Rattle.mqb_transcript.specs.Texts.{number_text, printed, reply_text}
use Rattle.mqb_transcript.specs.Told.{HaveNoColon}
use Rattle.mqb_transcript.specs.declared.replies.Reply.{Reply}
use Rattle.mqb_run_laws.specs.Transcripts.{TranscriptsShowRuns}
use Rattle.mqb_run_laws.proofs.Reading.{reply_read, signs_read}
use Rattle.mqb_run_laws.proofs.Signs.{told_shows}

no_colon : HaveNoColon hosts
no_colon = (refl, (refl, tt))

first_same : {X : Type 0} (x y : X) (xs ys : List X) → (x ∷ xs) ≡ (y ∷ ys) → x ≡ y
first_same x y xs ys e = cc

rest_same : {X : Type 0} (x y : X) (xs ys : List X) → (x ∷ xs) ≡ (y ∷ ys) → xs ≡ ys
rest_same x y xs ys e = cc

not_empty : {X : Type 0} (x : X) (xs : List X) → [] ≡ (x ∷ xs) → ⊥
not_empty x xs e = let none : ⊥ = cc in none

same_pair : (a b : ℕ × Event) → a ≡ b → (a.0 ≡ b.0) × (a.1 ≡ b.1)
same_pair a b e = (ap (λ (p : ℕ × Event). p.0) e, ap (λ (p : ℕ × Event). p.1) e)

abbrev ok_of : Reply → Result Reply AnswerFault
ok_of r = Ok r

some_reply : (a b : Reply) → ok_of a ≡ ok_of b → a ≡ b
some_reply a b e = cc

-- Texts.

line_behind : (number told rest more : List ℕ) → ((number ++ told ++ 10 ∷ []) ++ rest) ++ more ≡ number ++ (told ++ 10 ∷ (rest ++ more))
line_behind number told rest more = simp append_assoc

-- two lines with one number
same_number : (n : ℕ) (a b : Reply) (r s : List Played) (x y : List ℕ)
    → (printed hosts (Some n) a ++ reply_lines r) ++ x ≡ (printed hosts (Some n) b ++ reply_lines s) ++ y
    → reply_text hosts a ++ 10 ∷ (reply_lines r ++ x) ≡ reply_text hosts b ++ 10 ∷ (reply_lines s ++ y)
same_number n a b r s x y same = append_cancel_left (number_text (Some n)) _ _ (sym (line_behind (number_text (Some n)) (reply_text hosts a) (reply_lines r) x)
    ∙ same ∙ line_behind (number_text (Some n)) (reply_text hosts b) (reply_lines s) y)

-- Lines.

abbrev made : ℕ → Event → Choice → Reply → Played
made line event choice given = record { line = line; event = event; choice = choice; reply = given }

same_played : (p q : Played) → p.line ≡ q.line → p.event ≡ q.event → p.choice ≡ q.choice → p.reply ≡ q.reply → p ≡ q
same_played p q line event choice given = ap (λ (n : ℕ). made n p.event p.choice p.reply) line ∙ ap (λ (e : Event). made q.line e p.choice p.reply) event
    ∙ ap (λ (a : Choice). made q.line q.event a p.reply) choice ∙ ap (made q.line q.event q.choice) given

module _ (show : RepliesShowChoices) where
  -- one event, of which what is told begins the same text
  module _ (ms : List Move) (run : IsRun hosts ms) where
    abbrev c : Course
    c = after_run hosts ms

    abbrev answered : Event → Choice → network.Reply
    answered e a = (answer c (record { event = event_of e; choice = a })).reply

    same_choice : (e : Event) (a b : Choice) (g h : Reply) (x y : List ℕ) → IsTrue (may c (event_of e) a) → IsTrue (may c (event_of e) b)
        → told (answered e a) ≡ Ok g → told (answered e b) ≡ Ok h → reply_text hosts g ++ 10 ∷ x ≡ reply_text hosts h ++ 10 ∷ y → a ≡ b
    same_choice e a b g h x y may_a may_b told_a told_b same = let first = reply_read hosts g x no_colon in let second = reply_read hosts h y no_colon in
        (show hosts ms hosts_apart run (event_of e)).0 a b first.0 second.0 may_a may_b
        (ap (λ (s : List Sign). s ++ first.0) (sym (told_shows (answered e a) g told_a)) ∙ sym first.1 ∙ ap signs_read same ∙ second.1
        ∙ ap (λ (s : List Sign). s ++ second.0) (told_shows (answered e b) h told_b))

    same_line : (p q : Played) (x y : List ℕ) → p.line ≡ q.line → p.event ≡ q.event → IsTrue (may c (event_of p.event) p.choice) → IsTrue (may c (event_of q.event) q.choice)
        → told (answered p.event p.choice) ≡ Ok p.reply → told (answered q.event q.choice) ≡ Ok q.reply
        → reply_text hosts p.reply ++ 10 ∷ x ≡ reply_text hosts q.reply ++ 10 ∷ y → p ≡ q
    same_line p q x y line event may_p may_q told_p told_q same = same_played p q line event choice
        (some_reply p.reply q.reply (sym told_p ∙ ap (λ (e : Event). told (answered e p.choice)) event ∙ ap (λ (a : Choice). told (answered q.event a)) choice ∙ told_q))
      where
        choice : p.choice ≡ q.choice
        choice = same_choice p.event p.choice q.choice p.reply q.reply x y may_p (subst (λ (e : Event). IsTrue (may c (event_of e) q.choice)) (sym event) may_q)
            told_p (ap (λ (e : Event). told (answered e q.choice)) event ∙ told_q) same

  -- all of them
  same_from : (r s : List Played) (x y : List ℕ) (ms : List Move) → IsRun hosts ms → lines_of r ≡ lines_of s
      → IsRunFrom (after_run hosts ms) (moves_of r) → IsRunFrom (after_run hosts ms) (moves_of s)
      → map told (replies_from (after_run hosts ms) (moves_of r)) ≡ map (λ p. ok_of p.reply) r
      → map told (replies_from (after_run hosts ms) (moves_of s)) ≡ map (λ p. ok_of p.reply) s
      → reply_lines r ++ x ≡ reply_lines s ++ y → r ≡ s
  same_from [] [] x y ms run lines may_r may_s told_r told_s same = refl
  same_from [] (q ∷ s) x y ms run lines may_r may_s told_r told_s same = absurd (not_empty _ _ lines)
  same_from (p ∷ r) [] x y ms run lines may_r may_s told_r told_s same = absurd (not_empty _ _ (sym lines))
  same_from (p ∷ r) (q ∷ s) x y ms run lines may_r may_s told_r told_s same = ap (λ (z : Played). z ∷ r) one ∙ ap (λ (zs : List Played). q ∷ zs)
      (same_from r s x y (ms ++ move_of q ∷ []) (run_one (beginning hosts) ms (move_of q) run may_s.0) (rest_same _ _ _ _ lines)
      (subst (λ (d : Course). IsRunFrom d (moves_of r)) (sym next) (subst (λ (z : Played). IsRunFrom (moved_on (after_run hosts ms) (move_of z)) (moves_of r)) one may_r.1))
      (subst (λ (d : Course). IsRunFrom d (moves_of s)) (sym next) may_s.1)
      (subst (λ (d : Course). map told (replies_from d (moves_of r)) ≡ map (λ p. ok_of p.reply) r) (sym next)
      (subst (λ (z : Played). map told (replies_from (moved_on (after_run hosts ms) (move_of z)) (moves_of r)) ≡ map (λ p. ok_of p.reply) r) one (rest_same _ _ _ _ told_r)))
      (subst (λ (d : Course). map told (replies_from d (moves_of s)) ≡ map (λ p. ok_of p.reply) s) (sym next) (rest_same _ _ _ _ told_s))
      behind)
    where
      head : (p.line ≡ q.line) × (p.event ≡ q.event)
      head = same_pair (p.line, p.event) (q.line, q.event) (first_same _ _ _ _ lines)

      texts : reply_text hosts p.reply ++ 10 ∷ (reply_lines r ++ x) ≡ reply_text hosts q.reply ++ 10 ∷ (reply_lines s ++ y)
      texts = same_number q.line p.reply q.reply r s x y (ap (λ (n : ℕ). (printed hosts (Some n) p.reply ++ reply_lines r) ++ x) (sym head.0) ∙ same)

      one : p ≡ q
      one = same_line ms run p q (reply_lines r ++ x) (reply_lines s ++ y) head.0 head.1 may_r.0 may_s.0 (first_same _ _ _ _ told_r) (first_same _ _ _ _ told_s) texts

      next : after_run hosts (ms ++ move_of q ∷ []) ≡ moved_on (after_run hosts ms) (move_of q)
      next = course_one (beginning hosts) ms (move_of q)

      behind : reply_lines r ++ x ≡ reply_lines s ++ y
      behind = append_cancel_left (reply_line q) _ _ (sym (append_assoc (reply_line q) (reply_lines r) x)
          ∙ ap (λ (z : Played). (reply_line z ++ reply_lines r) ++ x) (sym one) ∙ same ∙ append_assoc (reply_line q) (reply_lines s) y)

  pub transcripts_show : TranscriptsShowRuns
  transcripts_show lines r s x y is_r is_s same = same_from r s x y [] tt (is_r.lines ∙ sym is_s.lines) is_r.moves is_s.moves is_r.replies is_s.replies same
