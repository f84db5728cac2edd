-- What is told of the first messages of a place, from the page on which their lines stand.
use Rattle.std.proofs.Common.{◌≡◌, ℕ, suc, Bool, true, false, eqb, List, [], ◌∷◌, ◌++◌, length, None, refl, sym, ap, ◌∙◌, arith}
use Rattle.std.proofs.lemmas.Bool.{eqb-true, eqb-false}
use Rattle.std.specs.List.{flat_map}
use Rattle.mqb_base.specs.declared.ids.Identity.{Identity}
use Rattle.mqb_base.specs.declared.message.Message.{Message}
use Rattle.mqb_base.specs.declared.queues.EntryPlace.{EntryPlace}
use Rattle.mqb_queue.specs.First.{is_free}
use Rattle.mqb_queue.specs.Places.{Places}
use Rattle.mqb_transcript.specs.Printing.{Page}
use Rattle.mqb_transcript.specs.declared.replies.Reply.TheVariants as reply
use Rattle.mqb_transcript.specs.lemmas.Wrote.{text_wrote}
use Rattle.mqb_commands.specs.Messages.{content_text, head_text, message_line}
use Rattle.mqb_commands.specs.Peeked.{IsRefused, TellsPlace}
use Rattle.mqb_commands.specs.Turns.{PutsTaken, TakenInTurn, held_at}
use Rattle.mqb_commands.specs.declared.status.Status.{Status}
use Rattle.mqb_commands.specs.declared.status.Status.TheVariants as status

-- a text with a byte at its end is not empty, whatever follows
no_end : (text : List ℕ) (last : ℕ) (rest : List ℕ) → (text ++ last ∷ []) ++ rest ≡ [] → ⊥
no_end [] last rest none = let apart : last ∷ rest ≡ [] = none in cc
no_end (b ∷ text) last rest none = let apart : b ∷ ((text ++ last ∷ []) ++ rest) ≡ [] = none in cc

line_begins : (hosts : List Identity) (now : ℕ) (m : Message) (rest : List ℕ) → message_line hosts now m ++ rest ≡ [] → ⊥
unfolding message_line
line_begins hosts now m rest none = no_end (head_text hosts now m ++ content_text hosts m) 10 rest none

nothing_of : (text : List ℕ) → eqb (length text) 0 ≡ true → text ≡ []
nothing_of [] is = refl
nothing_of (b ∷ bytes) is = absurd (let e : suc (length bytes) ≡ 0 = eqb-true (length (b ∷ bytes)) 0 is in omega arith)

pub is_nothing : (text seen : List ℕ) (empty : Bool) → seen ≡ text → empty ≡ eqb (length seen) 0 → empty ≡ true → text ≡ []
is_nothing text seen empty same is so = sym same ∙ nothing_of seen (sym is ∙ so)

pub is_something : (text seen : List ℕ) (empty : Bool) → seen ≡ text → empty ≡ eqb (length seen) 0 → empty ≡ false → text ≡ [] → ⊥
is_something text seen empty same is so none = eqb-false (length seen) 0 (sym is ∙ so) (ap length (same ∙ none))

abbrev pub blank : List Identity → Page
blank hosts = record { hosts = hosts; text = [] }

module _ (hosts : List Identity) (s : Places) (at : EntryPlace) (count now : ℕ) (page : Page) (text : List ℕ) (r : Status) where
  -- nothing stands there
  pub told_none : PutsTaken at count now (held_at s at) (blank hosts) page → page.text ≡ [] → IsRefused hosts (reply.QueueEmpty None) text r
      → TellsPlace hosts s at count now text r
  told_none puts none refused = by_taken puts.taken puts.in_turn (ap (λ (p : Page). p.text) puts.put ∙ text_wrote (blank hosts) (flat_map (message_line hosts now) puts.taken))
    where
      by_taken : (taken : List Message) → TakenInTurn (is_free at now) count (held_at s at) taken → page.text ≡ flat_map (message_line hosts now) taken
          → TellsPlace hosts s at count now text r
      by_taken [] in_turn lines = record { taken = []; in_turn = in_turn; told = refused }
      by_taken (m ∷ more) in_turn lines = absurd (line_begins hosts now m (flat_map (message_line hosts now) more) (sym lines ∙ none))

  -- lines stand there, and they are what is said
  pub told_some : PutsTaken at count now (held_at s at) (blank hosts) page → (page.text ≡ [] → ⊥) → text ≡ page.text → r ≡ status.Done
      → TellsPlace hosts s at count now text r
  told_some puts some said is = by_taken puts.taken puts.in_turn (ap (λ (p : Page). p.text) puts.put ∙ text_wrote (blank hosts) (flat_map (message_line hosts now) puts.taken))
    where
      by_taken : (taken : List Message) → TakenInTurn (is_free at now) count (held_at s at) taken → page.text ≡ flat_map (message_line hosts now) taken
          → TellsPlace hosts s at count now text r
      by_taken [] in_turn lines = absurd (some lines)
      by_taken (m ∷ more) in_turn lines = record { taken = m ∷ more; in_turn = in_turn; told = (is, said ∙ lines) }
