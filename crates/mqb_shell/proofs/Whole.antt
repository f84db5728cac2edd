-- What a shell has read and answered, and how it ends behind that.
use Rattle.std.proofs.Common.{[], ◌+◌, ◌++◌, ◌<◌, ◌≡◌, ◌≢◌, ◌≤◌, ◌∙◌, ◌∷◌, List, None, Option, Some, ap, inl, inr, length, length-append, refl, subst, sym, take, arith, ℕ}
use Rattle.std.proofs.lemmas.List.{take-append-le, take-take}
use Rattle.mqb_commands.specs.Outputs.{IsFaultLine, Says}
use Rattle.mqb_commands.specs.Shown.{IsAtEnd}
use Rattle.mqb_commands.specs.declared.status.Status.{Status}
use Rattle.mqb_commands.specs.declared.status.Status.TheVariants as status
use Rattle.mqb_outside.specs.Faults.{END}
use Rattle.mqb_outside.specs.Told.{Gave}
use Rattle.mqb_serving.proofs.Taking.{gave_none, gave_then}
use Rattle.mqb_serving.specs.declared.faults.PeerFault.TheVariants as peer
use Rattle.mqb_shell.specs.Answered.{Keeps, StopsIn}
use Rattle.mqb_shell.specs.Ends.{IsStop}
use Rattle.mqb_shell.specs.Lines.{IsOneLine}
use Rattle.mqb_shell.specs.Shells.{EndsBehind, EndsInput, Shell}
use Rattle.mqb_shell.specs.Standing.{Standing}
use Rattle.mqb_shell.specs.declared.asking.TheConstants.{MAX_LINE}
use Rattle.mqb_shell.proofs.Chains.{cut_none}
use Rattle.mqb_shell.proofs.Ends.{said_is, says_why, stopped}
use Rattle.mqb_shell.proofs.Limits.{none_kept}
use Rattle.mqb_shell.proofs.Pieces.{keeps_none, keeps_then, stops_behind}

-- So many times it was read, each time a byte at least, and every line that was read is answered.
pub record SoFar (steady : Option ℕ) (held left before after : Option (List ℕ)) (b a : Standing) (kept : List ℕ) (times : ℕ) : Type 0 where
  pub read : List ℕ
  pub gave : Gave held left read
  pub many : times ≤ length read
  pub keeps : Keeps steady [] read kept b a before after

-- not at all
pub none_so_far : {steady : Option ℕ} {held before : Option (List ℕ)} {b : Standing} {kept : List ℕ} → kept ≡ [] → SoFar steady held held before before b b kept 0
none_so_far {steady} {held} is = record {
  read = [];
  gave = gave_none held;
  many = omega arith;
  keeps = keeps_none is (λ k d within. absurd (omega (arith, within)));
}

-- Memory ran out before anything was read.
pub nothing_read : {steady : Option ℕ} {held before : Option (List ℕ)} {b : Standing} → Shell steady held held before before b b status.Memory
nothing_read {steady} {held} {before} {b} = record {
  read = [];
  gave = gave_none held;
  done = [];
  rest = [];
  cut = cut_none [];
  mid = b;
  told = before;
  answers = (refl, refl);
  ends = inr (inl (refl, refl, refl));
}

module _ {steady : Option ℕ} {held mid before told : Option (List ℕ)} {b m : Standing} {kept : List ℕ} {times : ℕ} (so : SoFar steady held mid before told b m kept times) where
  -- a piece was taken
  pub so_far_more : {steady_now : Option ℕ} {left after : Option (List ℕ)} {a : Standing} {piece kept_now : List ℕ} → steady_now ≡ steady → Gave mid left piece → 0 < length piece
      → ((text : List ℕ) → kept ≡ take (MAX_LINE + 1) text → IsOneLine text → Keeps steady_now text piece kept_now m a told after)
      → SoFar steady held left before after b a kept_now (times + 1)
  so_far_more {left = left} {piece = piece} same gave some keeps = record {
    read = so.read ++ piece;
    gave = gave_then held mid left so.read piece so.gave gave;
    many = omega (arith, so.many, some, length-append so.read piece);
    keeps = keeps_then same so.keeps keeps;
  }

  -- the shell ended with a line of it
  pub stopped_within : {steady_now : Option ℕ} {left after : Option (List ℕ)} {a : Standing} {piece : List ℕ} {r : Status} → steady_now ≡ steady → Gave mid left piece → IsStop r
      → ((text : List ℕ) → kept ≡ take (MAX_LINE + 1) text → IsOneLine text → StopsIn steady_now text piece m a told after r)
      → Shell steady held left before after b a r
  stopped_within {left = left} {after = after} {a = a} {piece = piece} {r = r} same gave stop stops =
      let all = stops_behind same so.keeps stops in
      record {
        read = so.read ++ piece;
        gave = gave_then held mid left so.read piece so.gave gave;
        done = all.done;
        rest = all.rest;
        cut = all.cut;
        mid = all.mid;
        told = all.told;
        answers = all.answers;
        ends = stopped steady (so.read ++ piece) all.rest left all.mid a all.told after r stop all.stops;
      }

  -- no more is read
  ended : {left after : Option (List ℕ)} {r : Status} → left ≡ mid
      → ((read rest : List ℕ) → times ≤ length read → kept ≡ take (MAX_LINE + 1) rest → IsOneLine rest → EndsBehind steady read rest left m m told after r)
      → Shell steady held left before after b m r
  ended {left} same ends = record {
    read = so.read;
    gave = subst (λ (o : Option (List ℕ)). Gave held o so.read) (sym same) so.gave;
    done = so.keeps.goes.done;
    rest = so.keeps.held_now;
    cut = so.keeps.goes.cut;
    mid = m;
    told = told;
    answers = so.keeps.goes.answers;
    ends = ends so.read so.keeps.held_now so.many so.keeps.kept_of so.keeps.goes.one;
  }

  -- the input failed
  pub failed : {left after : Option (List ℕ)} {r : Status} → left ≡ mid → Says (IsFaultLine status.ReadFault) told after r → Shell steady held left before after b m r
  failed {left} {after} {r} same said = ended same (λ read rest many is one. says_why steady read rest left m told after status.ReadFault r tt tt one said)

  -- there was too much of it
  pub flooded : {after : Option (List ℕ)} {r : Status} → END ≤ times → Says (IsFaultLine (status.Peer peer.TooMuch)) told after r → Shell steady held mid before after b m r
  flooded {after} {r} much said =
      ended refl (λ read rest many is one. says_why steady read rest mid m told after (status.Peer peer.TooMuch) r tt (omega (arith, much, many)) one said)

  -- it ended
  pub finished : {left after : Option (List ℕ)} {r : Status} → left ≡ mid → IsAtEnd left → EndsInput kept told after r → Shell steady held left before after b m r
  finished {left} {after} {r} same end said = ended same (λ read rest many is one. by kept refl read rest is one said)
    where
      none_left : (text : List ℕ) → length text ≡ 0 → text ≡ []
      none_left [] none = refl
      none_left (x ∷ text) none = absurd (omega (arith, none))

      by : (k : List ℕ) → kept ≡ k → (read rest : List ℕ) → kept ≡ take (MAX_LINE + 1) rest → IsOneLine rest → EndsInput k told after r
          → EndsBehind steady read rest left m m told after r
      by [] none read rest is one ends =
          subst (EndsBehind steady read rest left m m told after) (sym ends.0) (none_left rest (none_kept rest kept is (ap length none)), end, refl, ends.1)
      by (byte ∷ bytes) some read rest is one ends =
          let not : rest ≢ [] = λ none. let never : ⊥ = cc in never in
          says_why steady read rest left m told after (status.Peer peer.PeerClosed) r tt (not, end) one ends

-- what gave nothing holds what it held
pub none_given : (held left : Option (List ℕ)) → Gave held left [] → left ≡ held
none_given held None gave = sym gave
none_given held (Some text) gave = sym gave

-- Where the faults come from.

-- by the end of the input
pub input_is : (P : Status → Type 0) (kept : List ℕ) (before after : Option (List ℕ)) (r : Status) → P status.Done → P (status.Peer peer.PeerClosed) → P status.Memory
    → P status.WriteFault → EndsInput kept before after r → P r
input_is P [] before after r done closed none cut ends = subst P (sym ends.0) done
input_is P (byte ∷ bytes) before after r done closed none cut ends = said_is P (status.Peer peer.PeerClosed) r closed none cut ends

-- the front that was read of a buffer that was lent
pub front_read : (count size : ℕ) (front rest : List ℕ) → count ≤ length front → length front ≤ size → take count (take size (front ++ rest)) ≡ take count front
front_read count size front rest within room = take-take count size (front ++ rest) (omega (arith, within, room)) ∙ take-append-le count front rest within
