-- Examples of merging, as the whole call but for the last, into a slice that is full of 9.
use Rattle.std.specs.Prelude.{[], ◌∷◌, ◌≡◌, replicate}
use Rattle.promise.specs.Paper.{done, refused}
use Rattle.edit.specs.Call.{verdict_of}
use Rattle.merge.specs.Call.{outcome, merge_tests, merged_in}

pub record Examples : Type 0 where
  -- touching is not sharing, and the second comes first
  pub touching : merged_in (0 ∷ 5 ∷ 0 ∷ 4 ∷ 0 ∷ 0 ∷ 0 ∷ 3 ∷ []) (replicate 12 9) ≡ outcome (done 2) (0 ∷ 0 ∷ 0 ∷ 3 ∷ 0 ∷ 5 ∷ 0 ∷ 4 ∷ replicate 4 9)
  -- two equal backward ones become one forward
  pub equal : merged_in (1 ∷ 2 ∷ 0 ∷ 7 ∷ 1 ∷ 2 ∷ 0 ∷ 7 ∷ []) (replicate 12 9) ≡ outcome (done 1) (0 ∷ 7 ∷ 1 ∷ 2 ∷ replicate 8 9)
  -- the third reaches over both
  pub chain :
      merged_in (2 ∷ 0 ∷ 2 ∷ 1 ∷ 1 ∷ 0 ∷ 1 ∷ 9 ∷ 0 ∷ 0 ∷ 2 ∷ 0 ∷ []) (replicate 12 9) ≡ outcome (done 1) (0 ∷ 0 ∷ 2 ∷ 1 ∷ replicate 8 9)
  -- none
  pub empty : merged_in [] (replicate 12 9) ≡ outcome (done 0) (replicate 12 9)
  -- 4 before 9; 9 compares with the input, whatever would merge
  pub bad_payload : merged_in (replicate 5 0) (replicate 4 9) ≡ outcome (refused 4 0) (replicate 4 9)
  pub no_record : merged_in (replicate 8 0) (replicate 4 9) ≡ outcome (refused 9 0) (replicate 4 9)
  -- 3 before 4
  pub too_many : merged_in (replicate 4_097 0) (replicate 4 9) ≡ outcome (refused 3 0) (replicate 4 9)
  -- two numbers left over are 4 too
  pub two_left : merged_in (replicate 6 0) (replicate 8 9) ≡ outcome (refused 4 0) (replicate 8 9)
  -- an output as long as the input suffices, and as many selections as the limit are not refused
  pub exact : merged_in (0 ∷ 5 ∷ 0 ∷ 4 ∷ []) (replicate 4 9) ≡ outcome (done 1) (0 ∷ 5 ∷ 0 ∷ 4 ∷ [])
  pub full : verdict_of (merge_tests (replicate 4_096 0) (replicate 4_096 9)) ≡ done tt
