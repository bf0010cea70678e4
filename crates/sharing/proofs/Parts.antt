-- A loop that writes one part after another.
use Rattle.std.proofs.Common.{◌≡◌, ℕ, ◌+◌, ◌<◌, List, [], ◌∷◌, ◌++◌, length, get_or, set, take, ℤ, pos, sym, ◌∙◌}
use Rattle.std.proofs.lemmas.List.{take_more, take_more_set}
use Rattle.std.proofs.lemmas.List.Edits.{fill_by_more}
use Rattle.sharing.specs.Shares.{nth}

-- One part more is the wanted one at its place.
pub written_more : (wanted : ℕ → ℤ) (parts : List ℤ) (k : ℕ) (part : ℤ) → k < length parts → ((j : ℕ) → j < k → nth parts j ≡ wanted j) → part ≡ wanted k → (j : ℕ) → j < k + 1 → nth (set parts k part) j ≡ wanted j
written_more wanted parts k part inside so_far e = rw e (fill_by_more wanted parts k (pos 0) inside so_far)

-- One element more is that of the wanted list.
pub taken_more : {X : Type 0} (wanted xs : List X) (k : ℕ) (d x : X) → k < length xs → k < length wanted → take k xs ≡ take k wanted → x ≡ get_or wanted k d → take (k + 1) (set xs k x) ≡ take (k + 1) wanted
taken_more wanted xs k d x inside room so_far e = take_more_set xs k x inside ∙ (λ j. so_far j ++ e j ∷ []) ∙ sym (take_more wanted k d room)
