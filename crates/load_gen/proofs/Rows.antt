-- Worked drills, computed by the definitions. The numbers and texts were made by another program.
use Rattle.std.proofs.Common.{◌≡◌, ℕ, List, [], ◌∷◌, ◌++◌, refl}
use Rattle.std.specs.Prelude.{codes}
use Rattle.std.specs.List.{range_with_len}
use Rattle.std.specs.Fmt.{digits}
use Rattle.hex.specs.Hex.{encode_with}
use Rattle.md5.specs.Md5.{md5, digest_bytes, hash_after, compress, rounds, block_words}
use Rattle.handles.specs.Handle.{handle_text, ids_text}
use Rattle.xdr.specs.Items.{word, long, opaque_text}
use Rattle.load_gen.specs.Numbers.{left_xor, right_xor, next_number}
use Rattle.load_gen.specs.Shuffles.{shuffle}
use Rattle.load_gen.specs.Lines.{number_line, message_line}
use Rattle.load_gen.specs.Load.{load_data, args_message, write_lines, turn_lines, window_excerpt, windows_excerpt, commit_lines}
use Rattle.load_gen.specs.Load.{file_excerpt, files_text, file_lines, drill_transcript}

-- the numbers behind 1 and behind 7
first_behind_one : next_number 1 ≡ 1082269761
unfolding next_number left_xor right_xor
first_behind_one = refl

second_behind_one : next_number 1 ≡ 1082269761
unfolding next_number left_xor right_xor
second_behind_one = refl

third_behind_one : next_number 1 ≡ 1082269761
unfolding next_number left_xor right_xor
third_behind_one = refl

first_behind_seven : next_number 7 ≡ 7575888327
unfolding next_number left_xor right_xor
first_behind_seven = refl

second_behind_seven : next_number 7 ≡ 7575888327
unfolding next_number left_xor right_xor
second_behind_seven = refl

third_behind_seven : next_number 7 ≡ 7575888327
unfolding next_number left_xor right_xor
third_behind_seven = refl

-- a whole window, and a smaller one
window_by_one : shuffle 7 (range_with_len 0 8) 1 ≡ record { items = 4 ∷ 2 ∷ 5 ∷ 7 ∷ 0 ∷ 3 ∷ 6 ∷ 1 ∷ []; number = 11693034620340510321 }
unfolding shuffle next_number left_xor right_xor
window_by_one = refl

window_by_seven : shuffle 7 (range_with_len 0 8) 7 ≡ record { items = 6 ∷ 5 ∷ 1 ∷ 4 ∷ 2 ∷ 3 ∷ 0 ∷ 7 ∷ []; number = 5238649895138925265 }
unfolding shuffle next_number left_xor right_xor
window_by_seven = refl

three_by_seven : shuffle 2 (range_with_len 8 3) 7 ≡ record { items = 9 ∷ 10 ∷ 8 ∷ []; number = 8070950887952051652 }
unfolding shuffle next_number left_xor right_xor
three_by_seven = refl

-- the digits of the bytes from 0 to 255
abbrev each_byte : List ℕ
each_byte =
    codes "000102030405060708090a0b0c0d0e0f101112131415161718191a1b1c1d1e1f"
    ++ codes "202122232425262728292a2b2c2d2e2f303132333435363738393a3b3c3d3e3f"
    ++ codes "404142434445464748494a4b4c4d4e4f505152535455565758595a5b5c5d5e5f"
    ++ codes "606162636465666768696a6b6c6d6e6f707172737475767778797a7b7c7d7e7f"
    ++ codes "808182838485868788898a8b8c8d8e8f909192939495969798999a9b9c9d9e9f"
    ++ codes "a0a1a2a3a4a5a6a7a8a9aaabacadaeafb0b1b2b3b4b5b6b7b8b9babbbcbdbebf"
    ++ codes "c0c1c2c3c4c5c6c7c8c9cacbcccdcecfd0d1d2d3d4d5d6d7d8d9dadbdcdddedf"
    ++ codes "e0e1e2e3e4e5e6e7e8e9eaebecedeeeff0f1f2f3f4f5f6f7f8f9fafbfcfdfeff"

-- a file of one write, made from 0: the WRITE in 612 bytes with its mark
abbrev write_digits : List ℕ
write_digits =
    codes "80000260000000010000000000000002000186a3000000030000000700000000000000000000000000000000"
    ++ codes "000000200000000000000004000000000000000121e0f2975a84e78cec58787af28bde1400000000"
    ++ codes "00000000000002000000000000000200"
    ++ each_byte
    ++ each_byte

abbrev commit_digits : List ℕ
commit_digits =
    codes "80000058000000020000000000000002000186a3000000030000001500000000000000000000000000000000"
    ++ codes "000000200000000000000004000000000000000121e0f2975a84e78cec58787af28bde14000000000000000000000000"

abbrev smallest_text : List ℕ
smallest_text =
    codes "file d0\n"
    ++ codes "bytes 1 "
    ++ write_digits
    ++ codes "\nspill 4\n"
    ++ codes "pump 4\nturn 4\nturn 4\nturn 4\nturn 4\nturn 4\nturn 4\nturn 4\nturn 4\n"
    ++ codes "bytes 1 "
    ++ commit_digits
    ++ codes "\npump 4\nturn 4\nsync 4\nend\n"

-- the smallest drill
smallest_drill : drill_transcript 0 1 1 ≡ smallest_text
unfolding
    md5 digest_bytes hash_after compress rounds block_words word long opaque_text handle_text ids_text digits encode_with
    next_number left_xor right_xor shuffle number_line message_line load_data args_message write_lines turn_lines window_excerpt
    windows_excerpt commit_lines file_excerpt files_text file_lines drill_transcript
smallest_drill = refl
