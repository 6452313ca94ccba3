-- The versions that steps issue, one after the other (document 02, C-21: "no version is issued twice").
use Rattle.std.specs.Prelude.{◌≡◌, List, [], ◌∷◌, map, cond, ◌⊎◌, ℕ, ◌<◌, ltb}
use Rattle.map.specs.State.{Entry, State}
use Rattle.map.specs.Table.{In}

-- the versions issued: n is the last one before the first step, and the list has the last one after each step
unfoldable pub issued : ℕ → List ℕ → List ℕ
issued n [] = []
issued n (m ∷ ms) = cond (ltb n m) (m ∷ issued m ms) (issued m ms)

abbrev pub Above : ℕ → List ℕ → Type 0
Above n [] = Unit {0}
Above n (v ∷ vs) = (n < v) × Above n vs

-- each is less than all behind it
abbrev pub Ascends : List ℕ → Type 0
Ascends [] = Unit {0}
Ascends (v ∷ vs) = Above v vs × Ascends vs

-- An entry that is there behind a step was there before it, or the step wrote it: then it has the version that the step issued.
abbrev pub WritesIssued : State → State → Type 0
WritesIssued st t = (e : Entry) → In e t.entries → In e st.entries ⊎ ((st.last < t.last) × (e.version ≡ t.last))

abbrev pub AllWriteIssued : State → List State → Type 0
AllWriteIssued st [] = Unit {0}
AllWriteIssued st (t ∷ ts) = WritesIssued st t × AllWriteIssued t ts

abbrev pub lasts_of : List State → List ℕ
lasts_of ts = map (λ (t : State). t.last) ts

-- No version is issued twice, nor one that was issued before: st is the state before the first step, and the list has the state behind each. What a step writes
-- has the version that it issued.
pub record IssuedOnce (st : State) (ts : List State) : Type 0 where
  pub above : Above st.last (issued st.last (lasts_of ts))
  pub ascends : Ascends (issued st.last (lasts_of ts))
  pub writes : AllWriteIssued st ts
