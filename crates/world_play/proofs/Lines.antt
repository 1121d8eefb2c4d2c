-- The text of each reply is one line: its one line feed stands at its end.
use Rattle.std.proofs.Common.{◌≡◌, ◌≢◌, ℕ, zero, suc, ◌+◌, ◌<◌, ◌/◌, ◌%◌, ◌==◌, Bool, true, false, cond, List, [], ◌∷◌, ◌++◌, append_assoc, flat_map, Option, Some, None, refl, sym, ap, ◌∙◌, arith, subst, get_or}
use Rattle.std.specs.Prelude.{codes, decimal, nat_lt}
use Rattle.std.specs.Fmt.{digit_glyph, digits_onto, digits}
use Rattle.std.specs.List.{list_all, AllByRecursion}
use Rattle.std.proofs.lemmas.Bool.{eqb-true}
use Rattle.std.proofs.lemmas.Bool.Decides.{nat_tests}
use Rattle.world_model.proofs.ListFacts.{and_true}
use Rattle.level_script.specs.Forms.{continues_identifier}
use Rattle.level_script.specs.Frames.{IsNamed}
use Rattle.std.proofs.lemmas.List.Sums.{sum_by-append, sum_by-cons}
use Rattle.class_schema.specs.Class.{Class}
use Rattle.class_schema.specs.Ancestry.{object, class_at}
use Rattle.world_play.specs.Types.{Name, ClassId, Phase, Idle, Marking, Gathering, Reply}
use Rattle.world_play.specs.Types.reply
use Rattle.world_play.specs.Text.{phase_text, object_text, weak_text, name_text, names_text, text_of}
use Rattle.world_play.specs.Streams.{IsStart, line_feeds}

-- no byte is a line feed
pub record IsPlain (bytes : List ℕ) : Type 0 where
  pub none : line_feeds bytes ≡ 0

pub feeds_append : (xs ys : List ℕ) → line_feeds (xs ++ ys) ≡ line_feeds xs + line_feeds ys
feeds_append xs ys = sum_by-append (λ b. cond (b == 10) 1 0) xs ys

plain_append : (xs ys : List ℕ) → IsPlain xs → IsPlain ys → IsPlain (xs ++ ys)
plain_append xs ys a b = record { none = omega (arith, feeds_append xs ys, a.none, b.none) }

plain_digit : (d : ℕ) (acc : List ℕ) → d < 10 → IsPlain acc → IsPlain (digit_glyph false d ∷ acc)
plain_digit d acc small plain =
    let t : nat_lt d 10 ≡ true = grind (arith, nat_tests, small) in
    let other : (48 + d == 10) ≡ false = grind (arith, nat_tests) in
    record { none = sum_by-cons (λ b. cond (b == 10) 1 0) (digit_glyph false d) acc ∙ rw (t, other) (omega (arith, plain.none)) }

plain_onto : (k n : ℕ) (acc : List ℕ) → IsPlain acc → IsPlain (digits_onto k 10 false n acc)
plain_onto zero n acc plain = plain
plain_onto (suc k) n acc plain =
    let more : IsPlain (digit_glyph false (n % 10) ∷ acc) = plain_digit (n % 10) acc (omega arith) plain in
    either (n / 10 == 0) _ _ more (plain_onto k (n / 10) _ more)
  where
    either : (b : Bool) (xs ys : List ℕ) → IsPlain xs → IsPlain ys → IsPlain (cond b xs ys)
    either true xs ys x y = x
    either false xs ys x y = y

plain_decimal : (n : ℕ) → IsPlain (decimal n)
unfolding digits
plain_decimal n = plain_onto 64 n [] (record { none = refl })

plain_phase : (phase : Phase) → IsPlain (phase_text phase)
plain_phase Idle = record { none = refl }
plain_phase Marking = record { none = refl }
plain_phase Gathering = record { none = refl }

plain_name : (n : Name) → IsPlain (name_text n)
plain_name n =
    plain_append (codes " ") _ (record { none = refl })
    (plain_append (decimal n.lane) _ (plain_decimal n.lane) (plain_append (codes ":") _ (record { none = refl }) (plain_decimal n.count)))

plain_list : (names : List Name) → IsPlain (flat_map name_text names)
plain_list [] = record { none = refl }
plain_list (n ∷ names) = plain_append (name_text n) _ (plain_name n) (plain_list names)

plain_names : (names : List Name) → IsPlain (names_text names)
plain_names [] = record { none = refl }
plain_names (n ∷ names) = plain_append (codes ":") _ (record { none = refl }) (plain_list (n ∷ names))

-- no byte of an identifier is a line feed
no_feed : (b : ℕ) → continues_identifier b ≡ true → (b == 10) ≡ false
no_feed b h = go (b == 10) refl
  where
    go : (t : Bool) → (b == 10) ≡ t → (b == 10) ≡ false
    go false e = e
    go true e = absurd (let wrong : continues_identifier 10 ≡ true = subst (λ n. continues_identifier n ≡ true) (eqb-true b 10 e) h in cc)

plain_word : (bytes : List ℕ) → list_all continues_identifier bytes ≡ true → IsPlain bytes
plain_word [] h = record { none = refl }
plain_word (b ∷ bytes) h =
    let parts = and_true (continues_identifier b) _ h in
    let rest = (plain_word bytes parts.1).none in
    record { none = sum_by-cons (λ x. cond (x == 10) 1 0) b bytes ∙ rw (no_feed b parts.0) (omega (arith, rest)) }

-- the names of classes have none
pub plain_class : (classes : List Class) (n : ℕ) → AllByRecursion IsNamed classes → IsPlain (get_or classes n object).name
plain_class [] n named = record { none = refl }
plain_class (c ∷ classes) zero named = plain_word c.name named.0.bytes
plain_class (c ∷ classes) (suc n) named = plain_class classes n named.1

-- a text that ends with its one line feed
pub record IsLine (bytes : List ℕ) : Type 0 where
  pub body : List ℕ
  pub plain : IsPlain body
  pub is : bytes ≡ body ++ 10 ∷ []

-- a line with more before it
before : (xs ys : List ℕ) → IsPlain xs → IsLine ys → IsLine (xs ++ ys)
before xs ys plain l = record { body = xs ++ l.body; plain = plain_append xs l.body plain l.plain; is = ap (λ (zs : List ℕ). xs ++ zs) l.is ∙ sym (append_assoc xs l.body (10 ∷ [])) }

-- a line with words before it
words : (xs ys : List ℕ) → line_feeds xs ≡ 0 → IsLine ys → IsLine (xs ++ ys)
words xs ys none l = before xs ys (record { none = none }) l

ends : IsLine (codes "\n")
ends = record { body = []; plain = record { none = refl }; is = refl }

plain_was : (was : Bool) → IsPlain (cond was (codes "on") (codes "off"))
plain_was true = record { none = refl }
plain_was false = record { none = refl }

plain_weak : (there : Bool) → IsPlain (weak_text there)
plain_weak true = record { none = refl }
plain_weak false = record { none = refl }

plain_same : (same : Bool) → IsPlain (cond same (codes "yes") (codes "no"))
plain_same true = record { none = refl }
plain_same false = record { none = refl }

-- the class of a reply has a name without a line feed
abbrev pub ToldPlain : List Class → Reply → Type 0
ToldPlain classes (reply.Object lane n class) = IsPlain (class_at classes class).name
ToldPlain classes _ = Unit {0}

plain_object : (o : Option Name) → IsPlain (object_text o)
plain_object None = record { none = refl }
plain_object (Some n) = plain_append (decimal n.lane) _ (plain_decimal n.lane) (plain_append (codes ":") _ (record { none = refl }) (plain_decimal n.count))

pub is_line : (classes : List Class) (r : Reply) → ToldPlain classes r → IsLine (text_of classes r)
is_line classes (reply.Opened lane phase) plain = before (decimal lane) _ (plain_decimal lane) (words (codes " open ") _ refl (before (phase_text phase) _ (plain_phase phase) ends))
is_line classes (reply.Closed lane) plain = before (decimal lane) _ (plain_decimal lane) (words (codes " close") (codes "\n") refl ends)
is_line classes (reply.New lane n) plain =
    before (decimal lane) _ (plain_decimal lane)
    (words (codes " new ") _ refl (before (decimal n.lane) _ (plain_decimal n.lane) (words (codes ":") _ refl (before (decimal n.count) _ (plain_decimal n.count) ends))))
is_line classes (reply.Cluster lane n count) plain =
    before (decimal lane) _ (plain_decimal lane)
    (words (codes " cluster ") _ refl
    (before (decimal n.lane) _ (plain_decimal n.lane)
    (words (codes ":") _ refl (before (decimal n.count) _ (plain_decimal n.count) (words (codes " ") _ refl (before (decimal count) _ (plain_decimal count) ends))))))
is_line classes (reply.Full lane free) plain = before (decimal lane) _ (plain_decimal lane) (words (codes " full ") _ refl (before (decimal free) _ (plain_decimal free) ends))
is_line classes (reply.NamesSpent lane left) plain = before (decimal lane) _ (plain_decimal lane) (words (codes " names spent ") _ refl (before (decimal left) _ (plain_decimal left) ends))
is_line classes (reply.WasRoot lane was) plain = before (decimal lane) _ (plain_decimal lane) (words (codes " was ") _ refl (before (cond was (codes "on") (codes "off")) _ (plain_was was) ends))
is_line classes (reply.Was lane old) plain = before (decimal lane) _ (plain_decimal lane) (words (codes " was ") _ refl (before (object_text old) _ (plain_object old) ends))
is_line classes (reply.WasNumber lane old) plain = before (decimal lane) _ (plain_decimal lane) (words (codes " was ") _ refl (before (decimal old) _ (plain_decimal old) ends))
is_line classes (reply.Is lane got) plain = before (decimal lane) _ (plain_decimal lane) (words (codes " is ") _ refl (before (object_text got) _ (plain_object got) ends))
is_line classes (reply.IsNumber lane got) plain = before (decimal lane) _ (plain_decimal lane) (words (codes " is ") _ refl (before (decimal got) _ (plain_decimal got) ends))
is_line classes (reply.WasWeak lane was) plain = before (decimal lane) _ (plain_decimal lane) (words (codes " was ") _ refl (before (weak_text was) _ (plain_weak was) ends))
is_line classes (reply.IsWeak lane is) plain = before (decimal lane) _ (plain_decimal lane) (words (codes " is ") _ refl (before (weak_text is) _ (plain_weak is) ends))
is_line classes (reply.WeakMade lane n) plain = before (decimal lane) _ (plain_decimal lane) (words (codes " weak ") _ refl (before (object_text (Some n)) _ (plain_object (Some n)) ends))
is_line classes (reply.SerialsSpent lane made) plain = before (decimal lane) _ (plain_decimal lane) (words (codes " serials spent ") _ refl (before (decimal made) _ (plain_decimal made) ends))
is_line classes (reply.Forged lane) plain = before (decimal lane) _ (plain_decimal lane) (words (codes " forged") (codes "\n") refl ends)
is_line classes (reply.Same lane same) plain = before (decimal lane) _ (plain_decimal lane) (words (codes " same ") _ refl (before (cond same (codes "yes") (codes "no")) _ (plain_same same) ends))
is_line classes (reply.Object lane n class) plain =
    before (decimal lane) _ (plain_decimal lane)
    (words (codes " object ") _ refl
    (before (decimal n.lane) _ (plain_decimal n.lane)
    (words (codes ":") _ refl
    (before (decimal n.count) _ (plain_decimal n.count) (words (codes " ") _ refl (before (class_at classes class).name _ plain ends))))))
is_line classes (reply.NoField lane) plain = before (decimal lane) _ (plain_decimal lane) (words (codes " no field") (codes "\n") refl ends)
is_line classes (reply.WrongKind lane) plain = before (decimal lane) _ (plain_decimal lane) (words (codes " wrong kind") (codes "\n") refl ends)
is_line classes (reply.NoElement lane) plain = before (decimal lane) _ (plain_decimal lane) (words (codes " no element") (codes "\n") refl ends)
is_line classes (reply.WrongClass lane) plain = before (decimal lane) _ (plain_decimal lane) (words (codes " wrong class") (codes "\n") refl ends)
is_line classes (reply.NoObject lane) plain = before (decimal lane) _ (plain_decimal lane) (words (codes " none") (codes "\n") refl ends)
is_line classes (reply.Running phase) plain = words (codes "gc running ") _ refl (before (phase_text phase) _ (plain_phase phase) ends)
is_line classes (reply.Purging left) plain = words (codes "gc purging ") _ refl (before (decimal left) _ (plain_decimal left) ends)
is_line classes (reply.Pending frames) plain = words (codes "gc pending frames ") _ refl (before (decimal frames) _ (plain_decimal frames) ends)
is_line classes (reply.FullGc removed left names) plain =
    words (codes "gc full removed ") _ refl
    (before (decimal removed) _ (plain_decimal removed) (words (codes " left ") _ refl (before (decimal left) _ (plain_decimal left) (before (names_text names) _ (plain_names names) ends))))

-- a line has one line feed, and is not empty
pub one_feed : (bytes : List ℕ) → IsLine bytes → line_feeds bytes ≡ 1
one_feed bytes l = ap line_feeds l.is ∙ omega (arith, feeds_append l.body (10 ∷ []), l.plain.none)

pub line_some : (bytes : List ℕ) → IsLine bytes → bytes ≢ []
line_some bytes line none = let one = one_feed bytes line in let zero_feeds : line_feeds bytes ≡ 0 = ap line_feeds none in omega arith

abbrev tail_of : List ℕ → List ℕ
tail_of [] = []
tail_of (y ∷ ys) = ys

nothing_behind : (xs ys : List ℕ) → xs ++ ys ≡ [] → ys ≡ []
nothing_behind [] ys e = e
nothing_behind (y ∷ xs) ys e = absurd cc

-- what is behind a cut of a line, if it is anything, has the line feed
tail_feeds : (some more body : List ℕ) → more ≢ [] → some ++ more ≡ body ++ 10 ∷ [] → 0 < line_feeds more
tail_feeds [] more body other is = let e : line_feeds more ≡ line_feeds (body ++ 10 ∷ []) = ap line_feeds is in omega (arith, e, feeds_append body (10 ∷ []))
tail_feeds (x ∷ some) more [] other is = absurd (other (nothing_behind some more (ap tail_of is)))
tail_feeds (x ∷ some) more (y ∷ body) other is = tail_feeds some more body other (ap tail_of is)

-- a beginning of a line has no line feed
pub start_plain : (some bytes : List ℕ) → IsStart some bytes → IsLine bytes → line_feeds some ≡ 0
start_plain some bytes (more, other, is) line =
    let one = one_feed bytes line in
    let both : line_feeds bytes ≡ line_feeds (some ++ more) = ap line_feeds is in
    let behind = tail_feeds some more line.body other (sym is ∙ line.is) in
    omega (arith, one, both, feeds_append some more, behind)

-- nothing is a beginning of a reply's text
some_object : (classes : List Class) (lane : ℕ) (n : Name) (class : ClassId) → text_of classes (reply.Object lane n class) ≢ []
some_object classes lane n class none = let behind = nothing_behind (decimal lane) _ none in absurd cc

some_text : (classes : List Class) (r : Reply) → text_of classes r ≢ []
some_text classes (reply.Object lane n class) = some_object classes lane n class
some_text classes (reply.Opened lane phase) = line_some _ (is_line classes (reply.Opened lane phase) tt)
some_text classes (reply.Closed lane) = line_some _ (is_line classes (reply.Closed lane) tt)
some_text classes (reply.New lane n) = line_some _ (is_line classes (reply.New lane n) tt)
some_text classes (reply.Cluster lane n count) = line_some _ (is_line classes (reply.Cluster lane n count) tt)
some_text classes (reply.Full lane free) = line_some _ (is_line classes (reply.Full lane free) tt)
some_text classes (reply.NamesSpent lane left) = line_some _ (is_line classes (reply.NamesSpent lane left) tt)
some_text classes (reply.WasRoot lane was) = line_some _ (is_line classes (reply.WasRoot lane was) tt)
some_text classes (reply.Was lane old) = line_some _ (is_line classes (reply.Was lane old) tt)
some_text classes (reply.WasNumber lane old) = line_some _ (is_line classes (reply.WasNumber lane old) tt)
some_text classes (reply.Is lane got) = line_some _ (is_line classes (reply.Is lane got) tt)
some_text classes (reply.IsNumber lane got) = line_some _ (is_line classes (reply.IsNumber lane got) tt)
some_text classes (reply.WasWeak lane was) = line_some _ (is_line classes (reply.WasWeak lane was) tt)
some_text classes (reply.IsWeak lane is) = line_some _ (is_line classes (reply.IsWeak lane is) tt)
some_text classes (reply.WeakMade lane n) = line_some _ (is_line classes (reply.WeakMade lane n) tt)
some_text classes (reply.SerialsSpent lane made) = line_some _ (is_line classes (reply.SerialsSpent lane made) tt)
some_text classes (reply.Forged lane) = line_some _ (is_line classes (reply.Forged lane) tt)
some_text classes (reply.Same lane same) = line_some _ (is_line classes (reply.Same lane same) tt)
some_text classes (reply.NoObject lane) = line_some _ (is_line classes (reply.NoObject lane) tt)
some_text classes (reply.NoField lane) = line_some _ (is_line classes (reply.NoField lane) tt)
some_text classes (reply.WrongKind lane) = line_some _ (is_line classes (reply.WrongKind lane) tt)
some_text classes (reply.NoElement lane) = line_some _ (is_line classes (reply.NoElement lane) tt)
some_text classes (reply.WrongClass lane) = line_some _ (is_line classes (reply.WrongClass lane) tt)
some_text classes (reply.Running phase) = line_some _ (is_line classes (reply.Running phase) tt)
some_text classes (reply.Purging left) = line_some _ (is_line classes (reply.Purging left) tt)
some_text classes (reply.Pending frames) = line_some _ (is_line classes (reply.Pending frames) tt)
some_text classes (reply.FullGc removed left names) = line_some _ (is_line classes (reply.FullGc removed left names) tt)

pub start_none : (classes : List Class) (r : Reply) → IsStart [] (text_of classes r)
start_none classes r = (text_of classes r, some_text classes r, refl)
