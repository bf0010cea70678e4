use Rattle.std.proofs.Common.{◌*◌, ◌+ℤ◌, refl, arith, w64, FitsSigned}
use Rattle.std.proofs.lemmas.Int.{to_z-of_z}
use Rattle.statement.specs.Laws.{most_amount}
use Rattle.statement.proofs.Fits.{fits, size_plus}
use Rattle.statement.proofs.amounts.Row.own_sum.Goals as goal

pub returns : goal.returns
returns c =
    let a = c.args.self.now.amounts in
    let two = size_plus a.award a.supplemental most_amount most_amount c.requires.award c.requires.supplemental in
    let three = size_plus (a.award +ℤ a.supplemental) a.failure (2 * most_amount) most_amount two c.requires.failure in
    let four = size_plus (a.award +ℤ a.supplemental +ℤ a.failure) a.infeasible (3 * most_amount) most_amount three c.requires.infeasible in
    let fits_award : FitsSigned w64 a.award = fits a.award most_amount c.requires.award (omega arith) in
    let fits_supplemental : FitsSigned w64 a.supplemental = fits a.supplemental most_amount c.requires.supplemental (omega arith) in
    let fits_failure : FitsSigned w64 a.failure = fits a.failure most_amount c.requires.failure (omega arith) in
    let fits_infeasible : FitsSigned w64 a.infeasible = fits a.infeasible most_amount c.requires.infeasible (omega arith) in
    let fits_two : FitsSigned w64 (a.award +ℤ a.supplemental) = fits _ (2 * most_amount) two (omega arith) in
    let fits_three : FitsSigned w64 (a.award +ℤ a.supplemental +ℤ a.failure) = fits _ (3 * most_amount) three (omega arith) in
    let fits_four : FitsSigned w64 (a.award +ℤ a.supplemental +ℤ a.failure +ℤ a.infeasible) = fits _ (4 * most_amount) four (omega arith) in
    simp to_z-of_z (record { value = refl; small = four })
