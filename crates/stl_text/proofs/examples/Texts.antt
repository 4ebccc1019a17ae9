-- Worked texts: what they read as, and their faults.
use Rattle.std.proofs.Common.{◌≡◌, ℕ, ◌+◌, List, [], ◌∷◌, ◌++◌, refl, length, lit≤, drop, take, replicate, ◌<◌, arith}
use Rattle.std.specs.Prelude.{pos, negsuc, codes, true, false, flat_map, Err, Some}
use Rattle.micro_num.specs.declared.unit.Unit.TheVariants.{Millimetre}
use Rattle.micro_num.specs.declared.num_fault.NumFault.{NumFault}
use Rattle.micro_num.specs.declared.num_fault.NumFault.TheVariants.{NotNumber, TooLong, OutOfRange}
use Rattle.micro_num.specs.Micrometres.{coordinate_of, magnitude}
use Rattle.stl_text.specs.declared.word.Word.TheVariants.{EndFacet, FacetOrEnd, Loop, Solid}
use Rattle.stl_text.specs.declared.stl_fault.StlFault.TheVariants as fault
use Rattle.geometry.proofs.examples.Meshes.{at, cube, file_text}
use Rattle.geometry.specs.Facet.{Facet, facet_with}
use Rattle.stl_text.specs.Text
use Rattle.stl_text.specs.Written
use Rattle.geometry.specs.declared.limits.TheConstants.{FACET_LIMIT}

word_behind_a_blank : Text.first_word (codes " solid x") ≡ codes "solid"
word_behind_a_blank = refl

vertical_tab : Text.is_white 11 ≡ true
vertical_tab = refl

to_the_line_end : Text.after_line (codes "name\nfacet") ≡ codes "\nfacet"
to_the_line_end = refl

box_file_length : length (file_text (cube 0 2)) ≡ 1483
box_file_length = refl

box_file : Text.Reads FACET_LIMIT Millimetre (file_text (cube 0 2)) (cube 0 2)
unfolding magnitude
box_file =
    record { solids = cube 0 2 ∷ []; some = lit≤ tt; each = refl; few = lit≤ tt; rest = codes "\n"; spelled = refl; whole = refl }

no_facets : Text.Reads 12 Millimetre (codes "solid facet normal\nENDSOLID") []
no_facets =
    record { solids = [] ∷ []; some = lit≤ tt; each = refl; few = lit≤ tt; rest = []; spelled = refl; whole = refl }

odd_name : Text.Reads 12 Millimetre (codes "solid" ++ 32 ∷ 0 ∷ 255 ∷ 10 ∷ codes "endsolid solid\n") []
odd_name =
    record { solids = [] ∷ []; some = lit≤ tt; each = refl; few = lit≤ tt; rest = codes "\n"; spelled = refl; whole = refl }

empty_input : Text.IsFaultOf 12 Millimetre [] (fault.Ended Solid)
empty_input =
    record {
      token = Text.keyword_of Solid;
      facets_before = 0;
      wants = record {
        solids = [] ∷ [];
        front = [];
        more = Text.rest_of_line ∷ Text.end_word ∷ Text.rest_of_line ∷ [];
        cut = refl;
        count = refl;
        few = lit≤ tt;
        rest = [];
        spelled = refl;
        offset = refl;
        stands = refl;
      };
      kind_is = refl;
      no_solid = λ _. refl;
    }

-- any triangle, for facets that were not read
abbrev some_triangle : Facet
some_triangle = facet_with (at (pos 0) (pos 0) (pos 0)) (at (pos 0) (pos 0) (pos 0)) (at (pos 0) (pos 0) (pos 0))

abbrev tokens : List Text.Token
tokens = Text.solid_tokens (some_triangle ∷ [])

misspelled : Text.IsFaultOf 12 Millimetre (codes "solid\nfacet normal 0 0 1\nouter lop") (fault.Expected Loop 31)
misspelled =
    record {
      token = Text.keyword_of Loop;
      facets_before = 1;
      word = codes "lop";
      wants = record {
        solids = (some_triangle ∷ []) ∷ [];
        front = take 8 tokens;
        more = drop 9 tokens;
        cut = refl;
        count = refl;
        few = lit≤ tt;
        rest = codes " lop";
        spelled = refl;
        offset = refl;
        stands = refl;
      };
      kind_is = refl;
      keyword_wanted = λ e. cc;
      stands = lit≤ tt;
      other = refl;
    }

abbrev one_read : Facet
one_read = facet_with (at (pos 1000) (pos 0) (pos 0)) (at (pos 0) (pos 0) (pos 0)) (at (pos 0) (pos 0) (pos 0))

-- a word that stands for no number, as the second coordinate of the first vertex
abbrev after_one : List ℕ → List ℕ
after_one word = codes " " ++ word ++ codes " 3"

abbrev vertex_with : List ℕ → List ℕ
vertex_with word = codes "solid\nfacet normal 0 0 1\nouter loop\nvertex 1" ++ after_one word

no_number : (cause : NumFault) (word : List ℕ)
    → Text.rest_after Millimetre (take 11 (Text.solid_tokens (one_read ∷ []))) (vertex_with word) ≡ Some (after_one word)
    → 45 + length (Text.after_space (after_one word)) ≡ length (vertex_with word) → word ≡ Text.first_word (after_one word) → 0 < length word
    → coordinate_of Millimetre word ≡ Err cause → Text.IsFaultOf 12 Millimetre (vertex_with word) (fault.Number cause 45)
no_number cause word spelled offset stands some refused =
    record {
      z = pos 0;
      facets_before = 1;
      word = word;
      wants = record {
        solids = (one_read ∷ []) ∷ [];
        front = take 11 (Text.solid_tokens (one_read ∷ []));
        more = drop 12 (Text.solid_tokens (one_read ∷ []));
        cut = refl;
        count = refl;
        few = lit≤ tt;
        rest = after_one word;
        spelled = spelled;
        offset = offset;
        stands = stands;
      };
      stands = some;
      refused = refused;
    }

bad_number : Text.IsFaultOf 12 Millimetre (vertex_with (codes "x")) (fault.Number NotNumber 45)
unfolding magnitude
bad_number = no_number NotNumber (codes "x") refl refl refl (lit≤ tt) refl

number_too_long : Text.IsFaultOf 12 Millimetre (vertex_with (replicate 256 48)) (fault.Number TooLong 45)
unfolding magnitude
number_too_long = no_number TooLong (replicate 256 48) refl refl refl (lit≤ tt) refl

number_out_of_range : Text.IsFaultOf 12 Millimetre (vertex_with (codes "1e9")) (fault.Number OutOfRange 45)
unfolding magnitude
number_out_of_range = no_number OutOfRange (codes "1e9") refl refl refl (lit≤ tt) refl

-- the third facet of the box's file, with a limit of two facets
too_many : Text.IsFaultOf 2 Millimetre (file_text (cube 0 2)) (fault.TooMany 252)
unfolding magnitude
too_many =
    record {
      word = codes "facet";
      wants = record {
        solids = cube 0 2 ∷ [];
        front = take 44 (Text.solid_tokens (cube 0 2));
        more = drop 45 (Text.solid_tokens (cube 0 2));
        cut = refl;
        count = refl;
        few = lit≤ tt;
        rest = drop 251 (file_text (cube 0 2));
        spelled = refl;
        offset = refl;
        stands = refl;
      };
      facet = refl;
    }

-- two solids in capitals, with CR LF, words for normals, and names
abbrev solid_text : Facet → List ℕ → List ℕ
solid_text t name =
    codes "SOLID" ++ name ++ codes "\r\nFACET NORMAL nan nan nan\r\nOUTER LOOP\r\nVERTEX 1E-3 +0 -.002 VERTEX 0 0 0\r\nVertex 0 .001e0 0\r\nENDLOOP\r\n  endFacet\r\nENDSOLID it is"

abbrev capitals : Facet → List ℕ → List ℕ
capitals t name = solid_text t name ++ codes "\r\n"

abbrev small : Facet
small = facet_with (at (pos 1) (pos 0) (negsuc 1)) (at (pos 0) (pos 0) (pos 0)) (at (pos 0) (pos 1) (pos 0))

two_solids : Text.Reads 12 Millimetre (capitals small (codes " endsolid") ++ capitals small []) (small ∷ small ∷ [])
unfolding magnitude
two_solids =
    record { solids = (small ∷ []) ∷ (small ∷ []) ∷ []; some = lit≤ tt; each = refl; few = lit≤ tt; rest = codes "\r\n"; spelled = refl; whole = refl }

-- another word before the first solid
no_solid_at : (bytes : List ℕ) → 0 < length (Text.first_word bytes) → Text.is_wanted Solid (Text.first_word bytes) ≡ false
    → length (Text.after_space bytes) ≡ length bytes → Text.IsFaultOf 12 Millimetre bytes (fault.Expected Solid 0)
no_solid_at bytes some other front =
    record {
      token = Text.keyword_of Solid;
      facets_before = 0;
      word = Text.first_word bytes;
      wants = record {
        solids = [] ∷ [];
        front = [];
        more = Text.rest_of_line ∷ Text.end_word ∷ Text.rest_of_line ∷ [];
        cut = refl;
        count = refl;
        few = lit≤ tt;
        rest = bytes;
        spelled = refl;
        offset = omega (arith, front);
        stands = refl;
      };
      kind_is = refl;
      keyword_wanted = λ e. cc;
      stands = some;
      other = other;
    }

byte_order_mark : Text.IsFaultOf 12 Millimetre (0xEF ∷ 0xBB ∷ 0xBF ∷ file_text (cube 0 2)) (fault.Expected Solid 0)
byte_order_mark = no_solid_at (0xEF ∷ 0xBB ∷ 0xBF ∷ file_text (cube 0 2)) (lit≤ tt) refl refl

longer_word : Text.IsFaultOf 12 Millimetre (codes "solidx") (fault.Expected Solid 0)
longer_word = no_solid_at (codes "solidx") (lit≤ tt) refl refl

odd_byte : Text.IsFaultOf 12 Millimetre (codes "solid\n" ++ 255 ∷ []) (fault.Expected FacetOrEnd 6)
odd_byte =
    record {
      token = Text.end_word;
      facets_before = 0;
      word = 255 ∷ [];
      wants = record {
        solids = [] ∷ [];
        front = take 2 (Text.solid_tokens []);
        more = Text.rest_of_line ∷ [];
        cut = refl;
        count = refl;
        few = lit≤ tt;
        rest = codes "\n" ++ 255 ∷ [];
        spelled = refl;
        offset = refl;
        stands = refl;
      };
      kind_is = refl;
      keyword_wanted = λ e. cc;
      stands = lit≤ tt;
      other = refl;
    }

-- the box's file up to its first `endloop`
cut_short : Text.IsFaultOf 12 Millimetre (take 120 (file_text (cube 0 2))) (fault.Ended EndFacet)
unfolding magnitude
cut_short =
    record {
      token = Text.keyword_of EndFacet;
      facets_before = 1;
      wants = record {
        solids = cube 0 2 ∷ [];
        front = take 22 (Text.solid_tokens (cube 0 2));
        more = drop 23 (Text.solid_tokens (cube 0 2));
        cut = refl;
        count = refl;
        few = lit≤ tt;
        rest = [];
        spelled = refl;
        offset = refl;
        stands = refl;
      };
      kind_is = refl;
      no_solid = λ e. cc;
    }

-- the first of these solids, as it is written
abbrev spaced : List ℕ → List ℕ → Written.Spaced
spaced text space = record { text = text; space = space }

abbrev body : List Written.Spaced
body =
    spaced (codes "FACET") (codes " ") ∷ spaced (codes "NORMAL") (codes " ")
    ∷ spaced (codes "nan") (codes " ") ∷ spaced (codes "nan") (codes " ") ∷ spaced (codes "nan") (codes "\r\n")
    ∷ spaced (codes "OUTER") (codes " ") ∷ spaced (codes "LOOP") (codes "\r\n")
    ∷ spaced (codes "VERTEX") (codes " ") ∷ spaced (codes "1E-3") (codes " ") ∷ spaced (codes "+0") (codes " ") ∷ spaced (codes "-.002") (codes " ")
    ∷ spaced (codes "VERTEX") (codes " ") ∷ spaced (codes "0") (codes " ") ∷ spaced (codes "0") (codes " ") ∷ spaced (codes "0") (codes "\r\n")
    ∷ spaced (codes "Vertex") (codes " ") ∷ spaced (codes "0") (codes " ") ∷ spaced (codes ".001e0") (codes " ") ∷ spaced (codes "0") (codes "\r\n")
    ∷ spaced (codes "ENDLOOP") (codes "\r\n  ") ∷ spaced (codes "endFacet") (codes "\r\n") ∷ []

solid_in_capitals : Written.WrittenSolid Millimetre (small ∷ []) (solid_text small (codes " endsolid"))
unfolding magnitude
solid_in_capitals =
    record {
      opening = codes "SOLID";
      opening_is = refl;
      name = codes " endsolid";
      name_is = record { apart = refl; one_line = refl };
      line_break = codes "\r\n";
      line_break_is = (refl, refl);
      body = body;
      body_is = words;
      closing = codes "ENDSOLID";
      closing_is = refl;
      remark = codes " it is";
      remark_is = record { apart = refl; one_line = refl };
      text_is = refl;
    }
  where
    words : Written.AreWordsOf Millimetre (flat_map Text.facet_tokens (small ∷ [])) body
    words = (refl, refl, (refl, refl, (refl, tt, (refl, tt, (refl, tt, (refl, refl, (refl, refl, (refl, refl, (refl, refl, (refl, refl, (refl, refl, (refl, refl, (refl, refl, (refl, refl, (refl, refl, (refl, refl, (refl, refl, (refl, refl, (refl, refl, (refl, refl, (refl, refl, tt)))))))))))))))))))))

-- twice, the second time with no line end after the solid
written_twice : Written.Written Millimetre (small ∷ small ∷ []) (codes "\n" ++ solid_text small (codes " endsolid") ++ codes "\r\n" ++ solid_text small (codes " endsolid"))
written_twice =
    record {
      lead = codes "\n";
      lead_is = refl;
      solids = (small ∷ []) ∷ [];
      texts = spaced (solid_text small (codes " endsolid")) (codes "\r\n") ∷ [];
      texts_are = (solid_in_capitals, (refl, refl), tt);
      last = small ∷ [];
      last_text = solid_text small (codes " endsolid");
      last_is = solid_in_capitals;
      after = [];
      after_is = tt;
      each = refl;
      text_is = refl;
    }
