-- What `serve_next` ensures can be done, whatever it is given: so runs exist. Assumes nothing.
use mathlib.Core.Path.{◌≡◌, refl}
use mathlib.Core.Logic.{inl, inr, ⊎_elim}
use mathlib.Core.Bool.{Bool, true, false, cond, ◌&&◌, not}
use mathlib.Core.List.{List, [], ◌∷◌}
use mathlib.Core.Option.{Option, none, some}
use Prim.Native.Nat.{ℕ, zero, suc, ◌+◌, ◌-◌, ◌≤◌, ◌<◌}
use native.Mathlib.Omega.{arith}
use lib.ListN.{length, take, drop, get_or, length-append, length-drop}
use lib.Seq.{sets}
use lib.Dec.{eqb, ltb, leb}
use Rattle.wire.specs.Codec as wire
use Rattle.wire.specs.Codec.{Read, Valid, Bytes}
use Rattle.wire.specs.Field.{big_endian}
use Rattle.wire.proofs.FieldLaws.{big_laws, big_valid}
use Rattle.hexadecimal.specs.Hex.{to_hex, from_hex}
use Rattle.hexadecimal.specs.Number.{from_digits}
use Rattle.hexadecimal.proofs.Values.{digits_read}
use Rattle.hexadecimal.proofs.HexLaws.{hex_length, to-from}
use Rattle.message.specs.Request.{Request, request}
use Rattle.message.proofs.RequestLaws.{request_laws}
use Rattle.message.proofs.Refusals.{refusals}
use Rattle.message.proofs.Sizes.{request-small}
use Rattle.message.specs.Start.{id_in}
use Rattle.map.specs.State.{State}
use Rattle.map.specs.Table.{IsTable, Ascending}
use Rattle.map.specs.Step as map
use Rattle.map.specs.Step.{Context, context_of, Outcome, answered, step}
use Rattle.map.specs.Reply.{flat, pieces}
use Rattle.map.proofs.Keeps.{keeps}
use Rattle.service.specs.Line.{longest, asks_of, asks, Given, given, state_left, refused15, in_digits, on_frame, on_asked, line_step}
use Rattle.service.specs.Feed.{line_end, Turn, turn, ended, turn_of}
use Rattle.service.specs.Turns.{line_room, both, Turns, full, done, then}
use Rattle.service.proofs.Chunks.{left-later}
use Rattle.service.proofs.Bounds.{Late, late, answer-longest, error-size}
use Rattle.table.proofs.Lists.{lt-or_ge}
use Rattle.wire.specs.Write.{part}
use Rattle.table.specs.Memory.{state_of, Sound}
use Rattle.table.specs.Image.{image}
use Rattle.table.proofs.HasImage.{has_image}
use Rattle.service.specs.Serve.{error_pieces, on_step, on_read}
use Rattle.service.specs.Stream.{Becomes}
use Rattle.service.proofs.Decides.{dec_sound}
use Rattle.server.specs.declared.Fed.{Fed}
use Rattle.std.specs.Prelude as std
use Rattle.field.specs.declared.refusals.Refusal.{Refusal}
use Rattle.field.specs.declared.refusals.Refusal.TheVariants as refusal
use Rattle.server.specs.Lines.{fed_of, TurnsDone}
use Rattle.files.specs.declared.Window.{Window}
use Rattle.files.specs.declared.NextServe.TheVariants as next
use Rattle.files.specs.Window.{at, begin, inside, Lies, Cuts}
use Rattle.files.specs.Serving.{Ready, Same, Refuses, FileGives, Answers, Ran}
use Rattle.files.proofs.NextLaws.{writes, ends, reads}
use Rattle.files.proofs.Progress.{serves-file}
use Rattle.server.proofs.TurnLaws.{tame}
use Rattle.service.proofs.Ids.{id-small}

-- a state that a table can hold, in its order
record Fit (st : State) : Type 0 where
  table : IsTable st
  order : Ascending st.entries

-- a line given that has room, and the state behind it
record Fits (st : State) (g : Given) : Type 0 where
  fit : Fit (state_left st g.next)
  short : length g.text < line_room

error-fits : (k id : ℕ) (st : State) → Fit st → 1 ≤ k → k ≤ 11 → id < 0x8000_0000_0000_0000 → Fits st (given (to_hex (flat (error_pieces k id))) none)
error-fits k id st f l u i =
    record { fit = f; short = omega (arith, hex_length (flat (error_pieces k id)), error-size k id l u i) }

module _ (c : Context) (h : c.second < 0x1_0000_0000) (st : State) (f : Fit st) where
  outcome_fits : (r : Request) (n : ℕ) → Valid request r → (o : Outcome) → step c r st ≡ o → Late o → Fits st (in_digits (on_step r n o))
  unfolding on_step
  outcome_fits r n v (map.refused k) e g = error-fits k r.id st f (omega (arith, g.0)) g.1 (request-small r v).id
  outcome_fits r n v (answered a t) e g =
      let k = keeps c r st f.table a t e v h f.order in
      let m = answer-longest c r st a t v f.table h e in
      record { fit = record { table = k.0; order = k.1 }; short = omega (arith, hex_length (flat (pieces r a))) }

  frame-fits : (bs : List ℕ) → Bytes bs → (x : Read Request) → request.dec bs ≡ x → Fits st (on_frame (record { context = c; frame = bs }) st x)
  unfolding on_frame on_read
  frame-fits bs b (wire.refused k) e = let n = refusals bs k e in error-fits k (id_in bs) st f n.0 (omega (arith, n.1)) (id-small bs b)
  frame-fits bs b wire.more e = record { fit = f; short = omega arith }
  frame-fits bs b (wire.whole r n) e = go (eqb n (length bs))
    where
      go : (x : Bool) → Fits st (cond (not x) (given refused15 none) (in_digits (on_step r n (step c r st))))
      go true = outcome_fits r n (request_laws.exact bs r n b e).good (step c r st) refl (late c r st)
      go false = record { fit = f; short = omega arith }

-- four bytes are a second
second-small : (s : List ℕ) (n : ℕ) → from_digits (big_endian 4) s ≡ some n → n < 0x1_0000_0000
second-small s n e = big_valid 4 n (digits_read (big_endian 4) (big_laws 4) s n e).good

module _ (st : State) (f : Fit st) where
  asked-fits : (l : List ℕ) (x : Option ℕ) (y : Option (List ℕ)) → from_digits (big_endian 4) (take 8 l) ≡ x → from_hex (drop 9 l) ≡ y → Fits st (on_asked st (asks_of x y))
  asked-fits l none y p q = record { fit = f; short = omega arith }
  asked-fits l (some n) none p q = record { fit = f; short = omega arith }
  asked-fits l (some n) (some bs) p q =
      frame-fits (context_of n) (second-small (take 8 l) n p) st f bs (to-from (drop 9 l) bs q).1 (request.dec bs) refl

  line-fits : (l : List ℕ) → Fits st (line_step l st)
  unfolding line_step asks
  line-fits l = go (leb (length l) longest && eqb (get_or l 8 0) 0x20)
    where
      go : (t : Bool) → Fits st (on_asked st (cond t (asks_of (from_digits (big_endian 4) (take 8 l)) (from_hex (drop 9 l))) none))
      go true = asked-fits l (from_digits (big_endian 4) (take 8 l)) (from_hex (drop 9 l)) refl refl
      go false = record { fit = f; short = omega arith }

-- a turn and turns that have room
record TurnFits (st : State) (room : ℕ) (x : Turn) : Type 0 where
  fit : Fit (state_left st x.next)
  short : length x.text ≤ room

turn-fits : (p last : Bool) (s : List ℕ) (st : State) → Fit st → TurnFits st line_room (turn_of p last s st)
unfolding turn_of
turn-fits true last s st f = go (ltb (line_end s) (length s))
  where
    go : (x : Bool) → TurnFits st line_room (cond x (turn (line_end s + 1) [] false none) (turn (length s) [] true none))
    go true = record { fit = f; short = omega arith }
    go false = record { fit = f; short = omega arith }
turn-fits false last s st f = go (ltb (line_end s) (length s)) (ltb longest (length s)) (last && ltb 0 (length s))
  where
    one : (n : ℕ) (l : List ℕ) (p : Bool) → TurnFits st line_room (turn n (ended (line_step l st)) p (line_step l st).next)
    one n l p = let g = line-fits st f l in record { fit = g.fit; short = omega (arith, g.short, length-append (line_step l st).text (0x0a ∷ [])) }

    go : (x y z : Bool) → TurnFits st line_room (cond x (turn (line_end s + 1) (ended (line_step (take (line_end s) s) st)) false (line_step (take (line_end s) s) st).next)
        (cond y (turn (length s) (ended (line_step s st)) true (line_step s st).next) (cond z (turn (length s) (ended (line_step s st)) false (line_step s st).next) (turn 0 [] false none))))
    go true y z = one (line_end s + 1) (take (line_end s) s) false
    go false true z = one (length s) s true
    go false false true = one (length s) s false
    go false false false = record { fit = f; short = omega arith }

record Exists (last p : Bool) (s : List ℕ) (st : State) (room : ℕ) : Type 0 where
  turn : Turn
  turns : Turns last p s st room turn
  fits : TurnFits st room turn

module _ (last p : Bool) (s : List ℕ) (st : State) (room : ℕ) (f : Fit st)
    (on : (p : Bool) (u : List ℕ) (st : State) (room : ℕ) → Fit st → length u < length s → Exists last p u st room) where
  abbrev x : Turn
  x = turn_of p last s st

  no_turn : Turns last p s st room (turn 0 [] p none) → Exists last p s st room
  no_turn t = record { turn = turn 0 [] p none; turns = t; fits = record { fit = f; short = omega arith } }

  a_turn : line_room ≤ room → 0 < x.taken → Exists last p s st room
  a_turn l t =
      let g = turn-fits p last s st f in
      let y = on x.passing (drop x.taken s) (state_left st x.next) (room - length x.text) g.fit (omega (arith, length-drop x.taken s, (tame p last s st).within)) in
      record {
        turn = both x y.turn;
        turns = then l t y.turns;
        fits = record { fit = rw (← left-later st x.next y.turn.next) y.fits.fit; short = omega (arith, g.short, y.fits.short, length-append x.text y.turn.text) };
      }

  turns-from : Exists last p s st room
  turns-from = ⊎_elim (λ l. no_turn (full l)) (λ l. ⊎_elim (a_turn l) (λ t. no_turn (done (omega arith))) (lt-or_ge 0 x.taken)) (lt-or_ge room line_room)

turns_exist : (n : ℕ) (last p : Bool) (s : List ℕ) (st : State) (room : ℕ) → Fit st → length s < n → Exists last p s st room
turns_exist zero last p s st room f h = absurd (omega arith)
turns_exist (suc n) last p s st room f h = turns-from last p s st room f (λ p u st room f l. turns_exist n last p u st room f (omega arith))

-- a table that is left
leaves : (t : List ℕ) (o : Option State) → Fit (state_left (state_of t) o) → (t' : List ℕ) × Becomes t o t'
leaves t none f = (t, refl)
leaves t (some st) f = let m = has_image st f.table f.order in (image st, (m.state, m.sound))

-- what can be done, for each case of what is given
module _ (buf t out : List ℕ) (s : Window) where
  same : Same buf t out buf t out
  same = record { buffer = refl; table = refl; list = refl }

  refused : (k : Refusal) → Refuses buf t out s k buf t out → Answers buf t out s
  refused k x = record { answer = next.Refused k; buffer = buf; table = t; output = out; does = x }

  astray : (Lies buf s → ⊥) → Answers buf t out s
  astray n = record { answer = next.Astray; buffer = buf; table = t; output = out; does = record { outside = n; same = same } }

  -- something is given: it is to be written
  loud : {f : Fed} {out' t' : List ℕ} → Ready buf t out s → TurnsDone s.ended s.carried (inside buf s) t out (std.Ok f) out' t' → (f.size ≡ 0 → ⊥) → Answers buf t out s
  loud {f} {out'} {t'} r u n =
      record { answer = next.Write f.size (at (s.from + f.taken) s.held f.passing s.ended); buffer = buf; table = t'; output = out'; does = writes r u n }

  -- nothing is given: it is the end, or more is to be read
  quiet : {f : Fed} {out' t' : List ℕ} → Ready buf t out s → (b : Bool) → s.ended ≡ b → TurnsDone s.ended s.carried (inside buf s) t out (std.Ok f) out' t' → f.size ≡ 0 → Answers buf t out s
  quiet {out' = out'} {t'} r true e u z = record { answer = next.Done; buffer = buf; table = t'; output = out'; does = ends r u z e }
  quiet {f} {out'} {t'} r false e u z =
      let n : ℕ = s.held - (s.from + f.taken) in
      record { answer = next.Read (at 0 n f.passing false); buffer = sets buf 0 (part buf (s.from + f.taken) n); table = t'; output = out'; does = reads r u z e refl refl }

  serve : Ready buf t out s → Answers buf t out s
  serve r =
      let d = r.sound in
      let e = turns_exist (suc (length (inside buf s))) s.ended s.carried (inside buf s) (state_of t) (length out) (record { table = d.table; order = d.layout.order }) (omega arith) in
      let x : Turn = e.turn in
      let m = leaves t x.next e.fits.fit in
      let u : TurnsDone s.ended s.carried (inside buf s) t out (std.Ok (fed_of x)) (sets out 0 x.text) m.0 =
      record { turn = x; turns = e.turns; answer = refl; fits = e.fits.short; list = refl; table = m.1 } in
      ⊎_elim
      (λ h. loud r u (λ z. omega arith))
      (λ h. quiet r s.ended refl u (omega arith))
      (lt-or_ge 0 (length x.text))

  with_lies : Lies buf s → Answers buf t out s
  with_lies i =
      ⊎_elim
      (λ l. ⊎_elim (λ h. refused refusal.Room (record { why = inl (refl, inr h); lies = i; same = same })) (λ h. test l h (dec_sound t)) (lt-or_ge (length out) line_room))
      (λ l. refused refusal.Room (record { why = inl (refl, inl l); lies = i; same = same }))
      (lt-or_ge longest (length buf))
    where
      test : longest < length buf → line_room ≤ length out → Dec (Sound t) → Answers buf t out s
      test l h (yes e) = serve (record { lies = i; long = l; room = h; sound = e })
      test l h (no e) = refused refusal.Table (record { why = inr (refl, l, h, e); lies = i; same = same })

  pub answers : Answers buf t out s
  answers =
      ⊎_elim
      (λ l. astray (λ i. omega (arith, i.order)))
      (λ l. ⊎_elim (λ h. astray (λ i. omega (arith, i.within))) (λ h. with_lies (record { order = l; within = h })) (lt-or_ge (length buf) s.held))
      (lt-or_ge s.held s.from)

-- A whole file, however reading cuts it: a run serves it to its end.
pub exists : (c : Cuts) (file buf t out : List ℕ) → longest < length buf → line_room ≤ length out → Sound t → (x : Ran file buf t begin)
    × (FileGives file t x.written x.table × Sound x.table)
exists c = serves-file answers c
