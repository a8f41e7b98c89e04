pub mod FrontAnswers
