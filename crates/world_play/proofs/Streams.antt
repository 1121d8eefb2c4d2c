-- Reading and writing one more piece.
use Rattle.std.proofs.Common.{◌≡◌, ℕ, ◌+◌, List, [], ◌++◌, take, drop, length, length-drop, ◌<◌, ◌≤◌, ◌≢◌, arith, refl, sym, ap, ◌∙◌, append_assoc, append-nil, Option, Some, None, Result, Ok, Err}
use Rattle.std.specs.Prelude.{OnErr}
use Rattle.std.proofs.lemmas.List.{take-append-drop, take_all, drop_all}
use Rattle.std.proofs.Math.Seq.{take-add, take-append_seam, drop-append_seam}
use Rattle.play_io.specs.Faults.{Takes, Puts}
use Rattle.play_io.specs.declared.source.Failed.{Failed}
use Rattle.play_io.specs.declared.sink.PutErr.{PutErr}
use Rattle.world_play.specs.Streams.{Read, Gained, GainedStart, IsStart}

pub gained_more : (a b c : Option (List ℕ)) (bytes rest : List ℕ) (at n : ℕ) → rest ≡ drop at bytes → Gained a b (take at bytes) → Puts b c rest (Ok n) → Gained a c (take (at + n) bytes)
gained_more None b c bytes rest at n is was step = tt
gained_more (Some xs) None c bytes rest at n is was step = absurd (cc)
gained_more (Some xs) (Some ys) c bytes rest at n is was step =
    let same : ys ≡ xs ++ take at bytes = cc in
    step
    ∙ ap (λ (zs : List ℕ). Some zs)
    (ap (λ (zs : List ℕ). zs ++ take n rest) same ∙ append_assoc xs (take at bytes) (take n rest)
    ∙ ap (λ (zs : List ℕ). xs ++ (take at bytes ++ take n zs)) is ∙ ap (λ (zs : List ℕ). xs ++ zs) (sym (take-add at n bytes)))

pub gained_both : (a b c : Option (List ℕ)) (xs ys : List ℕ) → Gained a b xs → Gained b c ys → Gained a c (xs ++ ys)
gained_both None b c xs ys was step = tt
gained_both (Some was_there) None c xs ys was step = absurd (cc)
gained_both (Some was_there) (Some bs) c xs ys was step =
    let same : bs ≡ was_there ++ xs = cc in
    step ∙ ap (λ (zs : List ℕ). Some zs) (ap (λ (zs : List ℕ). zs ++ ys) same ∙ append_assoc was_there xs ys)

pub gained_none : (a : Option (List ℕ)) → Gained a a []
gained_none None = tt
gained_none (Some xs) = ap (λ (zs : List ℕ). Some zs) (sym (append-nil xs))

-- ---- reading

-- these bytes were read, and the rest is left
abbrev pub ReadOn : Option (List ℕ) → Option (List ℕ) → List ℕ → Type 0
ReadOn None now all = Unit {0}
ReadOn (Some xs) now all = (rest : List ℕ) × (now ≡ Some rest) × (xs ≡ all ++ rest)

pub read_none : (left : Option (List ℕ)) → ReadOn left left []
read_none None = tt
read_none (Some xs) = (xs, refl, refl)

pub read_more : (left now later : Option (List ℕ)) (all buf : List ℕ) (n : ℕ) → ReadOn left now all → Takes {E = Failed} now later (Ok n) buf → ReadOn left later (all ++ take n buf)
read_more None now later all buf n on takes = tt
read_more (Some xs) None later all buf n (rest, is, cut) takes = absurd cc
read_more (Some xs) (Some ys) later all buf n (rest, is, cut) takes =
    let same : ys ≡ rest = cc in (
      drop n ys,
      takes.2,
      cut ∙ ap (λ (zs : List ℕ). all ++ zs) (sym same ∙ sym (take-append-drop n ys) ∙ ap (λ (zs : List ℕ). zs ++ drop n ys) (sym takes.1)) ∙ sym (append_assoc all (take n buf) (drop n ys)),
    )

-- at the end all bytes were read
pub read_end : (left now later : Option (List ℕ)) (all buf : List ℕ) (limit n : ℕ) → ReadOn left now all → Takes {E = Failed} now later (Ok n) buf
    → n ≡ 0 → length all ≤ limit + 1 → Read left later limit all
read_end None now later all buf limit n on takes none few = tt
read_end (Some xs) None later all buf limit n (rest, is, cut) takes none few = absurd cc
read_end (Some xs) (Some ys) later all buf limit n (rest, is, cut) takes none few =
    let same : ys ≡ rest = cc in
    let over : ys ≡ [] = takes.3 none in
    let whole : xs ≡ all = cut ∙ ap (λ (zs : List ℕ). all ++ zs) (sym same ∙ over) ∙ append-nil all in
    let short : length xs ≤ limit + 1 = let e : length xs ≡ length all = ap length whole in omega (arith, e, few) in (
      sym whole ∙ sym (take_all (limit + 1) xs short),
      takes.2 ∙ ap (λ (zs : List ℕ). Some zs) (ap (drop n) over ∙ drop_all n [] (omega arith) ∙ sym (drop_all (limit + 1) xs short)),
    )

-- past the limit just one byte more was read
pub read_full : (left now : Option (List ℕ)) (all : List ℕ) (limit : ℕ) → ReadOn left now all → length all ≡ limit + 1 → Read left now limit all
read_full None now all limit on full = tt
read_full (Some xs) now all limit (rest, is, cut) full = (
  sym (take-append_seam all rest) ∙ ap (λ (k : ℕ). take k (all ++ rest)) full ∙ ap (take (limit + 1)) (sym cut),
  is ∙ ap (λ (zs : List ℕ). Some zs) (sym (drop-append_seam all rest) ∙ ap (λ (k : ℕ). drop k (all ++ rest)) full ∙ ap (drop (limit + 1)) (sym cut)),
)

-- ---- a put that fails

-- a put that failed gave nothing more
gained_failed : (a b c : Option (List ℕ)) (xs rest : List ℕ) (e : PutErr) → Gained a b xs → Puts b c rest (Err e) → Gained a c xs
gained_failed None b c xs rest e was step = tt
gained_failed (Some ys) None c xs rest e was step = absurd cc
gained_failed (Some ys) (Some bs) c xs rest e was step = step ∙ was

-- so does a put that took nothing
gained_nothing : (a b c : Option (List ℕ)) (xs rest : List ℕ) (n : ℕ) → n ≡ 0 → Gained a b xs → Puts b c rest (Ok n) → Gained a c xs
gained_nothing None b c xs rest n none was step = tt
gained_nothing (Some ys) None c xs rest n none was step = absurd cc
gained_nothing (Some ys) (Some bs) c xs rest n none was step =
    step ∙ ap (λ (k : ℕ). Some (bs ++ take k rest)) none ∙ ap (λ (zs : List ℕ). Some zs) (append-nil bs) ∙ was

-- the bytes in front of a place are a beginning, where there is more
start_at : (bytes : List ℕ) (at : ℕ) → at < length bytes → IsStart (take at bytes) bytes
start_at bytes at inside = (drop at bytes, some, sym (take-append-drop at bytes))
  where
    some : drop at bytes ≢ []
    some none = let e : length (drop at bytes) ≡ 0 = ap length none in omega (arith, length-drop at bytes, e)

-- a put that failed behind a place leaves a beginning, and so does one that took nothing
pub start_failed : (a b c : Option (List ℕ)) (bytes rest : List ℕ) (at : ℕ) (e : PutErr) → at < length bytes → Gained a b (take at bytes) → Puts b c rest (Err e) → GainedStart a c bytes
start_failed a b c bytes rest at e inside was step = (take at bytes, start_at bytes at inside, gained_failed a b c (take at bytes) rest e was step)

pub start_nothing : (a b c : Option (List ℕ)) (bytes rest : List ℕ) (at n : ℕ) → n ≡ 0 → at < length bytes → Gained a b (take at bytes) → Puts b c rest (Ok n) → GainedStart a c bytes
start_nothing a b c bytes rest at n none inside was step = (take at bytes, start_at bytes at inside, gained_nothing a b c (take at bytes) rest n none was step)

-- what holds where there is an error
pub err_holds : {T E : Type 0} (P : Type 0) (r : Result T E) → P → OnErr r P
err_holds P (Ok x) p = tt
err_holds P (Err e) p = p
