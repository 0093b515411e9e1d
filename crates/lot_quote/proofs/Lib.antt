mod QuoteLemmas
