-- Each keyword as it is written is that keyword, and a word.
use Rattle.std.proofs.Common.{◌≡◌, true, Some, refl}
use Rattle.word_forms.specs.declared.keyword.Keyword.{Keyword}
use Rattle.word_forms.specs.declared.keyword.Keyword.TheVariants.{Select, From, Join, On, Where, And, Group, By, Having, Sum, Min, Max, Count}
use Rattle.word_forms.specs.Keywords.{keyword_of, spelling}
use Rattle.word_forms.specs.Words.{is_word}

pub keyword_of-spelling : (k : Keyword) → keyword_of (spelling k) ≡ Some k
unfolding keyword_of
keyword_of-spelling Select = refl
keyword_of-spelling From = refl
keyword_of-spelling Join = refl
keyword_of-spelling On = refl
keyword_of-spelling Where = refl
keyword_of-spelling And = refl
keyword_of-spelling Group = refl
keyword_of-spelling By = refl
keyword_of-spelling Having = refl
keyword_of-spelling Sum = refl
keyword_of-spelling Min = refl
keyword_of-spelling Max = refl
keyword_of-spelling Count = refl

pub is_word-spelling : (k : Keyword) → is_word (spelling k) ≡ true
is_word-spelling Select = refl
is_word-spelling From = refl
is_word-spelling Join = refl
is_word-spelling On = refl
is_word-spelling Where = refl
is_word-spelling And = refl
is_word-spelling Group = refl
is_word-spelling By = refl
is_word-spelling Having = refl
is_word-spelling Sum = refl
is_word-spelling Min = refl
is_word-spelling Max = refl
is_word-spelling Count = refl
