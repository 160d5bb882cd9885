mod AnswerLemmas
mod FileLemmas
