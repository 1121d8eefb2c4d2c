use Rattle.std.proofs.Common.{◌≡◌, ℕ, List, ◌++◌, append_assoc, ap, ◌∙◌, string_bytes}
use Rattle.std.specs.Prelude.{codes, decimal}
use Rattle.world_play.specs.Text.{names_text}
use Rattle.world_play.proofs.text.push_full.Goals as goal

joined : (t c d e f n l : List ℕ) → ((t ++ (c ++ (d ++ (e ++ f)))) ++ n) ++ l ≡ t ++ (c ++ (d ++ (e ++ (f ++ (n ++ l)))))
joined t c d e f n l =
    append_assoc (t ++ (c ++ (d ++ (e ++ f)))) n l ∙ append_assoc t (c ++ (d ++ (e ++ f))) (n ++ l)
    ∙ ap (λ xs. t ++ xs) (append_assoc c (d ++ (e ++ f)) (n ++ l) ∙ ap (λ xs. c ++ xs) (append_assoc d (e ++ f) (n ++ l) ∙ ap (λ xs. d ++ xs) (append_assoc e f (n ++ l))))

pub returns : goal.returns
returns c =
    let counts : string_bytes c.write.new.self
    ≡ string_bytes c.args.text.now ++ (codes "gc full removed " ++ (decimal c.args.removed ++ (codes " left " ++ decimal c.args.left))) =
    c.in_ok-write.ensures.bytes in
    c.in_ok-push_str.ensures.bytes ∙ ap (λ (xs : List ℕ). xs ++ codes "\n") (c.in_ok-push_names.ensures ∙ ap (λ (xs : List ℕ). xs ++ names_text c.args.found.now) counts)
    ∙ joined (string_bytes c.args.text.now) (codes "gc full removed ") (decimal c.args.removed) (codes " left ") (decimal c.args.left) (names_text c.args.found.now) (codes "\n")
