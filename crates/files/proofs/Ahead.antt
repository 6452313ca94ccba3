-- Runs of a program that calls, writes and reads as the answers say, put together from its turns. Assumes nothing.
use mathlib.Core.List.{List, [], ◌∷◌, ◌++◌, append_assoc}
use Prim.Native.Nat.{ℕ}
use lib.ListN.{length, take}
use Rattle.files.specs.declared.Window.{Window}
use Rattle.files.specs.declared.NextServe.TheVariants as next
use Rattle.files.specs.declared.NextLoad.TheVariants as load
use Rattle.files.specs.Window.{arrived, Brings}
use Rattle.files.specs.Serving.{ServesNext, wrote, read, Ahead}
use Rattle.files.specs.Loading.{LoadsNext, read as load_read, LoadAhead}

pub ahead_none : {buf t : List ℕ} {s : Window} → Ahead buf t s buf t s
ahead_none = record { chunks = []; written = []; on = λ r. r }

pub ahead-both : {buf t buf' t' buf'' t'' : List ℕ} {s s' s'' : Window} → Ahead buf t s buf' t' s' → Ahead buf' t' s' buf'' t'' s'' → Ahead buf t s buf'' t'' s''
ahead-both x y =
    record {
      chunks = x.chunks ++ y.chunks;
      written = x.written ++ y.written;
      on = λ {ps} {w} r. rw (append_assoc x.chunks y.chunks ps, append_assoc x.written y.written w) (x.on (y.on r));
    }

pub ahead-wrote : {buf t out buf' t' out' : List ℕ} {s s' : Window} {n : ℕ} → ServesNext buf t out s (next.Write n s') buf' t' out' → Ahead buf t s buf' t' s'
ahead-wrote {out' = out'} {n = n} x = record { chunks = []; written = take n out'; on = λ r. wrote x r }

pub ahead-read : {buf t out buf' t' out' p buf'' : List ℕ} {s s' : Window} → ServesNext buf t out s (next.Read s') buf' t' out' → Brings buf' s'.held p buf''
    → Ahead buf t s buf'' t' (arrived s' (length p))
ahead-read {p = p} x b = record { chunks = p ∷ []; written = []; on = λ r. read x b r }

pub load-none : {buf t : List ℕ} {s : Window} → LoadAhead buf t s buf t s
load-none = record { chunks = []; on = λ r. r }

pub load-both : {buf t buf' t' buf'' t'' : List ℕ} {s s' s'' : Window} → LoadAhead buf t s buf' t' s' → LoadAhead buf' t' s' buf'' t'' s'' → LoadAhead buf t s buf'' t'' s''
load-both x y = record { chunks = x.chunks ++ y.chunks; on = λ {ps} r. rw (append_assoc x.chunks y.chunks ps) (x.on (y.on r)) }

pub load-more : {buf t buf' t' p buf'' : List ℕ} {s s' : Window} → LoadsNext buf t s (load.Read s') buf' t' → Brings buf' s'.held p buf''
    → LoadAhead buf t s buf'' t' (arrived s' (length p))
load-more {p = p} x b = record { chunks = p ∷ []; on = λ r. load_read x b r }
